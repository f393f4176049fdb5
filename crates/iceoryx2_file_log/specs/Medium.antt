-- What a handle knows of the bytes of a log's file, and what each call makes of that.
use Rattle.std.specs.Prelude.{ℕ, ◌≡◌, ◌≢◌, ◌+◌, ◌<◌, ◌≤◌, ◌⊎◌, Bool, true, false, List, ◌++◌, length, take, drop, All}
use Rattle.std.specs.Prelude.{slice_index, Option, Some, None, Result, Ok, Err}
use Rattle.iceoryx2_log.specs.declared.entry.Entry.{Entry}
use Rattle.iceoryx2_log.specs.declared.entry.Operation.TheVariants.{Moved}
use Rattle.iceoryx2_file_log.specs.declared.error.FileFault.{FileFault}
use Rattle.iceoryx2_file_log.specs.declared.header.TheConstants.{HEADER_LENGTH}
use Rattle.iceoryx2_file_log.specs.Compaction.{AreForms, MayBeCut}

abbrev pub AreBytes : List ℕ → Type 0
AreBytes bytes = (i : ℕ) → slice_index bytes i < 256

-- All that a handle knows. While it has the lock this is what the file holds; while it hasn't, what the file held at
-- the moment when the lock was let go of.
pub record Known : Type 0 where
  pub bytes : List ℕ
  -- what it held when the lock was granted: others may know of this
  pub standing : List ℕ
  pub locked : Bool
  -- whether all of it outlives the machine
  pub synchronized : Bool

-- What is known is related so. What is known stays known, and what isn't never is.
abbrev pub Becomes : (Known → Known → Type 0) → Option Known → Option Known → Type 0
Becomes step (Some old) (Some new) = step old new
Becomes step None None = Unit {0}
Becomes step (Some old) None = ⊥
Becomes step None (Some new) = ⊥

-- ---- the rule that all who share a file keep

-- The bytes begin with a header, and the forms of some entries, of which none is a mark.
pub record BeginWith (entries : List Entry) (front bytes : List ℕ) : Type 0 where
  pub header : List ℕ
  pub forms : List ℕ
  pub rest : List ℕ
  pub is_long : length header ≡ HEADER_LENGTH
  pub are_forms : AreForms entries forms
  pub no_marks : All (λ e. e.operation ≢ Moved) entries
  pub is_front : front ≡ header ++ forms
  pub parts : bytes ≡ front ++ rest

-- What stood as a header and whole entries stands, but for marks: each of these fronts of the old bytes is one of the
-- new ones. Whatever stands behind the last whole entry may be gone, or be anything.
abbrev pub Keeps : List ℕ → List ℕ → Type 0
Keeps old new = (entries : List Entry) (front : List ℕ) → BeginWith entries front old → BeginWith entries front new

-- Doing nothing keeps the rule, and so does one change after another that keeps it.
abbrev pub KeepsAlone : Type 0
KeepsAlone = (bytes : List ℕ) → Keeps bytes bytes

abbrev pub KeepsInTurn : Type 0
KeepsInTurn = (old mid new : List ℕ) → Keeps old mid → Keeps mid new → Keeps old new

-- More bytes behind all others keep it, whatever they are.
abbrev pub MoreKeeps : Type 0
MoreKeeps = (bytes more : List ℕ) → Keeps bytes (bytes ++ more)

-- Cutting off what stands behind a header and whole entries keeps it where that is torn, or a mark.
abbrev pub CutKeeps : Type 0
CutKeeps = (at : ℕ) (entries : List Entry) (bytes : List ℕ) → BeginWith entries (take at bytes) bytes
    → MayBeCut (drop at bytes) → Keeps bytes (take at bytes)

-- From this place on a handle may write and cut. What stands before it is all that others may know of. So at each
-- moment of a write or a cut from there the rule is kept, also where the process is killed in its midst.
pub record MayChangeFrom (at : ℕ) (k : Known) : Type 0 where
  pub locked : k.locked ≡ true
  pub within : at ≤ length k.bytes
  pub keeps : Keeps k.standing (take at k.bytes)

-- ---- the lock

abbrev pub IsFree : Known → Type 0
IsFree k = k.locked ≡ false

abbrev pub IsLocked : Known → Type 0
IsLocked k = k.locked ≡ true

-- It is granted. Others had it meanwhile, and each of them kept the rule, also those that were killed.
pub record Grants (count : ℕ) (old new : Known) : Type 0 where
  pub locked : new.locked ≡ true
  pub keeps : Keeps old.bytes new.bytes
  pub standing : new.standing ≡ new.bytes
  pub counted : count ≡ length new.bytes
  pub are_bytes : AreBytes new.bytes

abbrev pub Tries : Result (Option ℕ) FileFault → Option Known → Option Known → Type 0
Tries (Ok (Some count)) old new = Becomes (Grants count) old new
Tries (Ok None) old new = new ≡ old
Tries (Err e) old new = new ≡ old

-- It is let go of, and others see what stands now.
abbrev pub Unlocks : Known → Known → Type 0
Unlocks old new = new ≡ record old { locked = false }

-- ---- reading

-- So many bytes were read from there on into the front of this. None come only where none were wanted or none are left.
pub record Reads (at count : ℕ) (out : List ℕ) (k : Known) : Type 0 where
  pub read : take count out ≡ take count (drop at k.bytes)
  pub within : count ≤ length (drop at k.bytes)
  pub none : count ≡ 0 → (length out ≡ 0) ⊎ (length k.bytes ≤ at)

-- ---- writing

abbrev pub written : (at : ℕ) → List ℕ → List ℕ → List ℕ
written at bytes old = take at old ++ bytes ++ drop (at + length bytes) old

-- These bytes stand there now.
abbrev pub Writes : (at : ℕ) → List ℕ → Known → Known → Type 0
Writes at bytes old new = new ≡ record old { bytes = written at bytes old.bytes; synchronized = false }

-- The first ones of them do, none or all too.
abbrev pub WritesSome : (at : ℕ) → List ℕ → Known → Known → Type 0
WritesSome at bytes old new = (n : ℕ) × Writes at (take n bytes) old new

-- It ends there now.
abbrev pub CutsTo : (at : ℕ) → Known → Known → Type 0
CutsTo at old new = new ≡ record old { bytes = take at old.bytes; synchronized = false }

abbrev pub Synchronizes : Known → Known → Type 0
Synchronizes old new = new ≡ record old { synchronized = true }
