-- How a log is compacted: its mark, its snapshot, and from which length on one is tried.
use Rattle.std.specs.Prelude.{ℕ, ◌≡◌, ◌≢◌, ◌+◌, ◌-◌, ◌*◌, ◌^◌, ◌<◌, ◌≤◌, ◌⊎◌, List, [], ◌∷◌, ◌++◌, length, min, bit_and}
use Rattle.iceoryx2_log.specs.declared.entry.Entry.{Entry}
use Rattle.iceoryx2_log.specs.declared.entry.Operation.TheVariants.{Moved}
use Rattle.iceoryx2_log.specs.Form.{IsForm, Begins}
use Rattle.iceoryx2_file_log.specs.declared.error.FileFault.{FileFault}
use Rattle.iceoryx2_file_log.specs.declared.error.FileFault.TheVariants as fault
use Rattle.iceoryx2_file_log.specs.declared.header.TheConstants.{HEADER_LENGTH}
use Rattle.iceoryx2_file_log.specs.declared.header.Header.{Header}
use Rattle.iceoryx2_file_log.specs.declared.header.LogName.{LogName}
use Rattle.iceoryx2_file_log.specs.declared.compaction.Access.{Access}
use Rattle.iceoryx2_file_log.specs.Header as header
use Rattle.iceoryx2_file_log.specs.Remainder.{IsTorn}

-- ---- the mark that a log goes on in another file

-- The bytes are the form of a mark, and nothing else.
pub record IsMark (bytes : List ℕ) : Type 0 where
  pub mark : Entry
  pub moves : mark.operation ≡ Moved
  pub is_form : IsForm mark bytes

-- The bytes begin with a mark, which has so many of them.
pub record BeginsWithMark (bytes : List ℕ) (count : ℕ) : Type 0 where
  pub mark : Entry
  pub moves : mark.operation ≡ Moved
  pub begins : Begins bytes mark count

-- What may be cut off where it is all that is left of a file: what is torn, or a mark.
abbrev pub MayBeCut : List ℕ → Type 0
MayBeCut bytes = IsTorn bytes ⊎ IsMark bytes

-- ---- the snapshot with which a log begins

-- The bytes are the forms of the entries, one after the other.
abbrev pub AreForms : List Entry → List ℕ → Type 0
AreForms [] bytes = bytes ≡ []
AreForms (e ∷ entries) bytes = (form : List ℕ) × (rest : List ℕ) × IsForm e form × (bytes ≡ form ++ rest)
    × AreForms entries rest

-- where the snapshot ends in the file
abbrev pub snapshot_end : Header → ℕ
snapshot_end h = HEADER_LENGTH + h.snapshot_length

-- The bytes are a file of the log of this name: the header, whose counter begins with 0, and these bytes as its
-- snapshot.
pub record HasSnapshot (name : LogName) (snapshot : List ℕ) (h : Header) (bytes : List ℕ) : Type 0 where
  pub front : List ℕ
  pub is_front : header.IsForm h front
  pub same_log : h.name ≡ name
  pub begins : h.counter ≡ 0
  pub counted : h.snapshot_length ≡ length snapshot
  pub is : bytes ≡ front ++ snapshot
  pub ends : length bytes ≡ snapshot_end h

-- The bytes are such a file, with just these entries as its snapshot.
pub record IsSnapshot (name : LogName) (entries : List Entry) (h : Header) (bytes : List ℕ) : Type 0 where
  pub forms : List ℕ
  pub are_forms : AreForms entries forms
  pub has : HasSnapshot name forms h bytes

-- ---- when a compaction is tried

-- The file has more than 64 KiB, and has come to the length from which one is tried.
abbrev pub IsLong : (file_length : ℕ) → (tries_from : ℕ) → Type 0
IsLong file_length tries_from = (65536 < file_length) × (tries_from ≤ file_length)

-- A file of this length is worth a compaction to so many bytes.
abbrev pub IsWorth : (file_length : ℕ) → (wanted : ℕ) → Type 0
IsWorth file_length wanted = 8 * wanted ≤ file_length

-- the length from which that is so, as far as numbers go
abbrev pub worth_from : ℕ → ℕ
worth_from wanted = min (wanted * 8) (2 ^ 64 - 1)

-- the length from which a log with this header is first compacted: what stands there may need all of its snapshot
abbrev pub first_tried : Header → ℕ
first_tried h = worth_from (snapshot_end h)

-- the length from which a compaction is tried again that was refused at this one
abbrev pub later : ℕ → ℕ
later file_length = min (file_length + 65536) (2 ^ 64 - 1)

-- A compaction to so many bytes was refused for this reason: too little would be saved, or another.
abbrev pub IsDeclined : FileFault → (wanted : ℕ) → (file_length : ℕ) → (tries_from : ℕ) → Type 0
IsDeclined why wanted file_length tries_from =
    ((why ≡ fault.NothingSaved) × (file_length < 8 * wanted) × (tries_from ≡ worth_from wanted))
    ⊎ ((why ≢ fault.NothingSaved) × (tries_from ≡ later file_length))

-- These entries would make so long a file that too little would be saved, and they are tried again from a length on.
pub record SavesTooLittle (name : LogName) (entries : List Entry) (file_length tries_from : ℕ) : Type 0 where
  pub h : Header
  pub bytes : List ℕ
  pub snapshot : IsSnapshot name entries h bytes
  pub little : file_length < 8 * length bytes
  pub again : tries_from ≡ worth_from (length bytes)

-- A compaction to these entries was refused for this reason, and is tried again from a length on.
abbrev pub TriesAgain : FileFault → LogName → List Entry → (file_length : ℕ) → (tries_from : ℕ) → Type 0
TriesAgain why name entries file_length tries_from =
    ((why ≡ fault.NothingSaved) × SavesTooLittle name entries file_length tries_from)
    ⊎ ((why ≢ fault.NothingSaved) × (tries_from ≡ later file_length))

-- ---- who may use the file

-- Whoever may read and write a file with the old access may do so with the new one.
abbrev pub KeepsAccess : Access → Access → Type 0
KeepsAccess old new = (new.group ≡ old.group) × ((new.user ≡ old.user) ⊎ (bit_and old.mode 0o060 ≡ 0o060))
