-- What becomes of a file that several handles share.
use Rattle.std.specs.Prelude.{ℕ, ◌≡◌, List, ◌++◌, take, drop}
use Rattle.iceoryx2_log.specs.declared.entry.Entry.{Entry}
use Rattle.iceoryx2_file_log.specs.declared.header.TheConstants.{HEADER_LENGTH}
use Rattle.iceoryx2_file_log.specs.Place.{Place}
use Rattle.iceoryx2_file_log.specs.Medium.{Known, MayChangeFrom, Keeps, AreBytes}
use Rattle.iceoryx2_file_log.specs.Entries.{entries_in}

-- What one handle makes of the bytes, from the moment when its lock was granted: at any moment of a write or a cut from
-- a place, whatever stands there, what stands before that place is as it was. It may end anywhere, as where the process
-- is killed, or a disk has left any bytes in the place of what wasn't synchronized.
pub data Changes (standing : List ℕ) : List ℕ → List ℕ → Type 0 where
  ends : {bytes : List ℕ} → Changes standing bytes bytes
  changes : {mid new : List ℕ} (k : Known) (at : ℕ) → k.standing ≡ standing → MayChangeFrom at k
      → take at mid ≡ take at k.bytes → Changes standing mid new → Changes standing k.bytes new

-- Handles had the lock, one after the other.
pub data Turns : List ℕ → List ℕ → Type 0 where
  none : {bytes : List ℕ} → Turns bytes bytes
  turn : {old mid new : List ℕ} → Changes old old mid → Turns mid new → Turns old new

-- However many had it, what stood as a header and whole entries stands, but for marks. So a lock that is granted is as
-- `Grants` has it.
abbrev pub TurnsKeep : Type 0
TurnsKeep = (old new : List ℕ) → Turns old new → Keeps old new

-- What the handle has taken is a front of the entries to which the bytes come at any later moment, whoever had them
-- meanwhile.
abbrev pub HasTakenAFront : Place → Known → Type 0
HasTakenAFront p k = (later : List ℕ) → Turns k.bytes later → AreBytes later → (rest : List Entry)
    × (entries_in (drop HEADER_LENGTH (take p.position k.bytes)) ++ rest ≡ entries_in (drop HEADER_LENGTH later))
