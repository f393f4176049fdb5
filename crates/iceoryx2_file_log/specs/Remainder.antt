-- What a writer that died leaves at the end of a log's file.
use Rattle.std.specs.Prelude.{ℕ, ◌+◌, ◌≡◌, ◌≢◌, ◌⊎◌, List, [], ◌++◌, length, take, drop, nat_lt}
use Rattle.std.specs.Prelude.{Bool, false, bytes_eq, not}
use Rattle.std.specs.Prelude.{Option, Some, None, if◌then◌else◌}
use Rattle.iceoryx2_log.specs.declared.entry.Entry.{Entry}
use Rattle.iceoryx2_log.specs.declared.form.TheConstants.{HEADER_LENGTH, SUM_LENGTH, MIN_BODY_LENGTH, MAX_BODY_LENGTH}
use Rattle.iceoryx2_log.specs.declared.form.reading.EntryError.{EntryError}
use Rattle.iceoryx2_log.specs.declared.form.reading.EntryError.TheVariants.{CutShort, Malformed, OutOfMemory}
use Rattle.iceoryx2_log.specs.Form.{header, sum_of, IsLength, IsForm, Begins, IsCutShort}
use Rattle.iceoryx2_file_log.specs.declared.remainder.Front.{Front}
use Rattle.iceoryx2_file_log.specs.declared.remainder.Front.TheVariants.{Unfinished, Torn, Damaged}

-- The bytes are a header, another sum than that of the body, and the body, of the header's length.
pub record HasWrongSum (bytes : List ℕ) : Type 0 where
  pub sum : List ℕ
  pub body : List ℕ
  pub is_length : IsLength (length body)
  pub parts : bytes ≡ header (length body) ++ sum ++ body
  pub sum_length : length sum ≡ SUM_LENGTH
  pub wrong : sum ≢ sum_of body

-- The bytes are what a writer that died has left of an entry: they end before one does, or its sum is wrong.
abbrev pub IsTorn : List ℕ → Type 0
IsTorn bytes = IsCutShort bytes ⊎ HasWrongSum bytes

-- No bytes that are torn begin with an entry. So no whole entry is ever cut off.
abbrev pub NoneTornAway : Type 0
NoneTornAway = (bytes : List ℕ) (e : Entry) (count : ℕ) → IsTorn bytes → Begins bytes e count → ⊥

-- A writer that dies within the append of an entry leaves all of its form or a front of it. So behind what stood there
-- is the entry, or bytes that are torn and begin with none.
abbrev pub WithOrWithout : Type 0
WithOrWithout = (e : Entry) (written missing : List ℕ) → IsForm e (written ++ missing)
    → (missing ≡ []) ⊎ (IsTorn written × ((d : Entry) (count : ℕ) → Begins written d count → ⊥))

-- ---- the same as a test

abbrev pub sum_differs : List ℕ → List ℕ → Bool
sum_differs sum body = not (bytes_eq sum (sum_of body))

-- a body after its header and its sum
abbrev pub wrong_in : List ℕ → List ℕ → List ℕ → Bool
wrong_in front sum body = if nat_lt (length body) MIN_BODY_LENGTH then false
    else if nat_lt MAX_BODY_LENGTH (length body) then false
    else if bytes_eq front (header (length body)) then sum_differs sum body else false

unfoldable pub has_wrong_sum_in : List ℕ → Bool
has_wrong_sum_in bytes = if nat_lt (length bytes) (HEADER_LENGTH + SUM_LENGTH) then false
    else wrong_in (take HEADER_LENGTH bytes) (take SUM_LENGTH (drop HEADER_LENGTH bytes))
    (drop SUM_LENGTH (drop HEADER_LENGTH bytes))

-- what bytes are that are cut short, of which so many are left in the file
abbrev pub unread_in : List ℕ → ℕ → Front
unread_in bytes left = if nat_lt (length bytes) left then Unfinished else Torn

-- what bytes are that begin with no entry and aren't cut short
abbrev pub malformed_in : List ℕ → ℕ → Front
malformed_in bytes left = if nat_lt (length bytes) left then Damaged
    else if has_wrong_sum_in bytes then Torn else Damaged

-- what bytes are that were refused for this reason; nothing is known of them where there was no memory
abbrev pub refused_in : EntryError → List ℕ → ℕ → Option Front
refused_in CutShort bytes left = Some (unread_in bytes left)
refused_in Malformed bytes left = Some (malformed_in bytes left)
refused_in OutOfMemory bytes left = None
