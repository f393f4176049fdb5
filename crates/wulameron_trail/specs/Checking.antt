-- When the bytes of a log's file are sound, and what is wrong with others.
use Rattle.std.specs.Prelude.{◌≡◌, ◌≢◌, ◌⊎◌, ◌<◌, ◌≤◌, ℕ, ◌+◌, List, [], ◌++◌, length, take}
use Rattle.iceoryx2_world.specs.World.{World, empty_world}
use Rattle.iceoryx2_world.specs.Agreement.{Agrees}
use Rattle.iceoryx2_log.specs.declared.entry.Operation.TheVariants.{Moved as Mark}
use Rattle.iceoryx2_log.specs.declared.entry.Entry.{Entry}
use Rattle.iceoryx2_log.specs.Form.{IsForm, Begins}
use Rattle.iceoryx2_file_log.specs.declared.header.TheConstants.{HEADER_LENGTH, VERSION}
use Rattle.iceoryx2_file_log.specs.declared.header.Header.{Header}
use Rattle.iceoryx2_file_log.specs.declared.header.HeaderError.{HeaderError}
use Rattle.iceoryx2_file_log.specs.declared.header.HeaderError.TheVariants as header
use Rattle.iceoryx2_file_log.specs.Header.{IsForm as IsHeaderForm, HasVersion}
use Rattle.iceoryx2_file_log.specs.Remainder.{IsTorn}
use Rattle.iceoryx2_journal.specs.Follow.{IsFollowed, Differs}
use Rattle.wulameron_trail.specs.declared.checker.Ending.{Ending}
use Rattle.wulameron_trail.specs.declared.checker.Ending.TheVariants as ending
use Rattle.wulameron_trail.specs.declared.checker.Sound.{Sound}
use Rattle.wulameron_trail.specs.declared.checker.LogFault.{LogFault}
use Rattle.wulameron_trail.specs.declared.checker.LogFault.TheVariants as wrong
use Rattle.wulameron_trail.specs.declared.checker.Found.{Found}
use Rattle.wulameron_trail.specs.declared.checker.Verdict.{Verdict}
use Rattle.wulameron_trail.specs.declared.checker.Verdict.TheVariants as verdict

-- ---- entries that are followed

-- An entry of so many bytes, after so many, ends with a snapshot of that length at the latest, or begins after it.
abbrev pub Fits : (snapshot at count : ℕ) → Type 0
Fits snapshot at count = (at + count ≤ snapshot) ⊎ (snapshot ≤ at)

-- The bytes are so many entries' forms, one after the other. In their order the entries come to this world from an
-- empty one with the header's counter. None stands across the end of the snapshot.
pub data Reaches (h : Header) : List ℕ → ℕ → World → Type 0 where
  begun : Reaches h [] 0 (empty_world h.counter)
  goes : {bytes : List ℕ} {n : ℕ} {w u : World} (e : Entry) (form : List ℕ) → Reaches h bytes n w
      → IsForm e form → Fits h.snapshot_length (length bytes) (length form) → IsFollowed w e u
      → Reaches h (bytes ++ form) (n + 1) u

-- Each world that entries come to so agrees. So none has to be tested for it.
abbrev pub ReachedWorldsAgree : Type 0
ReachedWorldsAgree = (h : Header) (bytes : List ℕ) (n : ℕ) (w : World) → Reaches h bytes n w → Agrees w

-- The bytes are a header, entries that are followed, and a rest; this is the world there.
pub record Parts (bytes : List ℕ) (h : Header) (taken rest : List ℕ) (n : ℕ) (w : World) : Type 0 where
  pub front : List ℕ
  pub form : IsHeaderForm h front
  pub reaches : Reaches h taken n w
  pub parts : bytes ≡ front ++ (taken ++ rest)

-- ---- what is sound

-- what may stand after the last of them: nothing, what a writer left that died, or the mark that the log goes on in
-- another file
abbrev pub IsEnd : List ℕ → Ending → Type 0
IsEnd rest ending.Whole = rest ≡ []
IsEnd rest (ending.Torn n) = IsTorn rest × (n ≡ length rest) × (rest ≢ [])
IsEnd rest ending.Moved = (e : Entry) × Begins rest e (length rest) × (e.operation ≡ Mark)

-- The bytes are a header and so many entries that are followed, the snapshot's among them, up to this byte, and then
-- such an end.
pub record IsSound (bytes : List ℕ) (s : Sound) : Type 0 where
  pub header : Header
  pub taken : List ℕ
  pub rest : List ℕ
  pub world : World
  pub parts : Parts bytes header taken rest s.entries world
  pub snapshot : header.snapshot_length ≤ length taken
  pub byte : s.end ≡ HEADER_LENGTH + length taken
  pub end : IsEnd rest s.ending

-- ---- what is wrong

-- They don't begin as the file of a log of any version does.
abbrev pub HasNoVersion : List ℕ → Type 0
HasNoVersion bytes = (version : ℕ) → HasVersion version bytes → ⊥

-- Why bytes are no header. Those that are damaged are no other log's, and no other version's.
abbrev pub IsNoHeader : List ℕ → HeaderError → Type 0
IsNoHeader bytes header.NotALog = HasNoVersion bytes
IsNoHeader bytes (header.AnotherVersion found) = HasVersion found bytes × (found ≢ VERSION)
IsNoHeader bytes header.Damaged =
    ((h : Header) → IsHeaderForm h bytes → ⊥) × (HasNoVersion bytes → ⊥)
    × ((found : ℕ) → HasVersion found bytes → found ≢ VERSION → ⊥)

-- An entry begins there that is no mark.
abbrev pub IsAccess : List ℕ → Entry → ℕ → Type 0
IsAccess rest e count = Begins rest e count × (e.operation ≢ Mark)

-- The snapshot of this length ends before its length: within an entry, or with the file.
abbrev pub IsShort : (snapshot at : ℕ) → List ℕ → Type 0
IsShort snapshot at rest =
    ((e : Entry) × (count : ℕ) × IsAccess rest e count × (at < snapshot) × (snapshot < at + count))
    ⊎ ((ended : Ending) × IsEnd rest ended × (at < snapshot))

-- What is wrong with the first thing of the rest, after so many bytes of entries that come to this world. That an
-- entry isn't answered is that the world answers otherwise than the entry has it.
abbrev pub IsWrongNext : (snapshot : ℕ) → World → (at : ℕ) → List ℕ → LogFault → Type 0
IsWrongNext snapshot w at rest (wrong.BadHeader error) = ⊥
IsWrongNext snapshot w at rest wrong.DamagedEntry =
    (IsTorn rest → ⊥) × ((e : Entry) (count : ℕ) → Begins rest e count → ⊥)
IsWrongNext snapshot w at rest wrong.NotAnswered =
    (e : Entry) × (count : ℕ) × (u : World) × IsAccess rest e count × Fits snapshot at count × Differs w e u
IsWrongNext snapshot w at rest wrong.ShortSnapshot = IsShort snapshot at rest
IsWrongNext snapshot w at rest wrong.MarkNotLast =
    (e : Entry) × (count : ℕ) × Begins rest e count × (e.operation ≡ Mark) × (count < length rest)

-- The first thing that is wrong stands after a header and so many entries that are followed.
pub record IsWrongAfter (bytes : List ℕ) (f : Found) : Type 0 where
  pub header : Header
  pub taken : List ℕ
  pub rest : List ℕ
  pub world : World
  pub parts : Parts bytes header taken rest f.place world
  pub byte : f.byte ≡ HEADER_LENGTH + length taken
  pub is : IsWrongNext header.snapshot_length world (length taken) rest f.wrong

-- The first bytes are no header: that is at byte 0, before entry 0.
pub record IsWrongFront (bytes : List ℕ) (f : Found) : Type 0 where
  pub error : HeaderError
  pub fault : IsNoHeader (take HEADER_LENGTH bytes) error
  pub is : f ≡ record { wrong = wrong.BadHeader error; place = 0; byte = 0 }

abbrev pub IsWrong : List ℕ → Found → Type 0
IsWrong bytes f = IsWrongFront bytes f ⊎ IsWrongAfter bytes f

abbrev pub IsVerdict : List ℕ → Verdict → Type 0
IsVerdict bytes (verdict.Sound s) = IsSound bytes s
IsVerdict bytes (verdict.Wrong f) = IsWrong bytes f
