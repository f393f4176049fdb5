-- What comes of the next bytes that a reader gives.
use Rattle.std.specs.Prelude.{◌≡◌, ◌≤◌, ℕ, List, ◌++◌, length, Option, Some}
use Rattle.iceoryx2_log.specs.declared.entry.Entry.{Entry}
use Rattle.iceoryx2_log.specs.Form.{Begins}
use Rattle.iceoryx2_file_log.specs.declared.remainder.Front.{Front}
use Rattle.iceoryx2_file_log.specs.declared.remainder.Front.TheVariants as front
use Rattle.iceoryx2_file_log.specs.Remainder.{IsTorn}

-- These bytes are unread: those that were read ahead, and then those that the reader has left.
pub record IsUnread (ahead : List ℕ) (left : Option (List ℕ)) (bytes : List ℕ) : Type 0 where
  pub rest : List ℕ
  pub left_is : left ≡ Some rest
  pub parts : bytes ≡ ahead ++ rest

-- They are no entry, no front of one, and no entry whose sum is wrong.
pub record IsDamage (bytes : List ℕ) : Type 0 where
  pub not_torn : IsTorn bytes → ⊥
  pub none : (e : Entry) (count : ℕ) → Begins bytes e count → ⊥

-- They begin with damage.
pub record BeginsWithDamage (bytes : List ℕ) : Type 0 where
  pub damage : List ℕ
  pub rest : List ℕ
  pub is : IsDamage damage
  pub parts : bytes ≡ damage ++ rest

-- What bytes are that are all there is up to then.
abbrev pub IsFrontIn : List ℕ → Front → Type 0
IsFrontIn bytes (front.Whole e count) = Begins bytes e count
IsFrontIn bytes front.Torn = IsTorn bytes
IsFrontIn bytes front.Unfinished = IsDamage bytes
IsFrontIn bytes front.Damaged = IsDamage bytes

-- The next of these bytes are an entry's form; or all of them are what a writer leaves that died, or nothing; or they
-- are damaged.
abbrev pub IsNext : List ℕ → Front → Type 0
IsNext bytes (front.Whole e count) = Begins bytes e count
IsNext bytes front.Torn = IsTorn bytes
IsNext bytes front.Unfinished = BeginsWithDamage bytes
IsNext bytes front.Damaged = BeginsWithDamage bytes

-- The entry's form is among these bytes.
abbrev pub IsWithin : Front → List ℕ → Type 0
IsWithin (front.Whole e count) bytes = count ≤ length bytes
IsWithin _ bytes = Unit {0}
