-- What a handle does to the bytes of its file.
use Rattle.std.specs.Prelude.{ℕ, ◌≡◌, ◌⊎◌, Bool, true, List, ◌++◌, length, take, drop, Option}
use Rattle.iceoryx2_file_log.specs.declared.error.FileFault.{FileFault}
use Rattle.iceoryx2_file_log.specs.declared.error.FileFault.TheVariants as fault
use Rattle.iceoryx2_file_log.specs.Place.{Place}
use Rattle.iceoryx2_file_log.specs.Medium.{Known, CutsTo, Becomes, written}

-- The handle has the lock, knows how long the file is, and what it read ahead stands at its position.
pub record Reading (p : Place) (k : Known) : Type 0 where
  pub locked : k.locked ≡ true
  pub long : p.file_length ≡ length k.bytes
  pub more : List ℕ
  pub ahead : drop p.position k.bytes ≡ p.ahead ++ more

-- The handle has the lock, and knows how long the file is.
pub record IsSoLong (file_length : ℕ) (k : Known) : Type 0 where
  pub locked : k.locked ≡ true
  pub long : file_length ≡ length k.bytes

-- The file has the same so many bytes there.
abbrev pub SameAt : (at count : ℕ) → List ℕ → Known → Type 0
SameAt at count bytes k = take count (drop at k.bytes) ≡ take count (drop at bytes)

-- The file holds just these bytes.
abbrev pub Holds : List ℕ → Known → Type 0
Holds bytes k = k.bytes ≡ bytes

-- All that was written stands there, and is synchronized where that was wanted.
abbrev pub WritesAll : (at : ℕ) → List ℕ → (synchronizes : Bool) → Known → Known → Type 0
WritesAll at bytes synchronizes old new =
    new ≡ record old { bytes = written at bytes old.bytes; synchronized = synchronizes }

-- It ends there, and that is synchronized where it was wanted.
abbrev pub CutsAll : (at : ℕ) → (synchronizes : Bool) → Known → Known → Type 0
CutsAll at synchronizes old new =
    new ≡ record old { bytes = take at old.bytes; synchronized = synchronizes }

-- It ends there, or nothing has changed.
abbrev pub CutsOrStays : (at : ℕ) → Known → Known → Type 0
CutsOrStays at old new = (new ≡ old) ⊎ CutsTo at old new

-- Why a write is refused: for its own reason, and none of what it wrote is left, or because that is in doubt.
abbrev pub IsTakenBack : FileFault → (error : FileFault) → (at : ℕ) → (synchronizes : Bool)
    → Option Known → Option Known → Type 0
IsTakenBack why error at synchronizes old new =
    (why ≡ fault.Unsure) ⊎ (why ≡ error) × Becomes (CutsAll at synchronizes) old new
