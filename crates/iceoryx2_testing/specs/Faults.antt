-- A storage that refuses chosen accesses of another.
use Rattle.std.specs.Prelude.{◌≡◌, ◌≤◌, ◌+◌, ℕ, Bool, true, false, List, length, nat_eq}
use Rattle.std.specs.List.{list_any}
use Rattle.iceoryx2_access.specs.Letter.{Letter}
use Rattle.iceoryx2_access.specs.MayRefuse.{IsFault, MayRefuse}
use Rattle.iceoryx2_access.specs.Run.{Run}
use Rattle.iceoryx2_testing.specs.declared.script.counters.Counters.{Counters}
use Rattle.iceoryx2_access.specs.Counts.{count_up}
use Rattle.iceoryx2_testing.specs.Counters.{counters_after}

-- the storage inside, the numbers of the accesses that are refused, and how often was asked
pub record FaultyState (S : Type 0) : Type 0 where
  pub inner : S
  pub refused : List ℕ
  pub accesses : ℕ
  pub counters : Counters

-- The access of this number is refused.
abbrev pub is_refused : ℕ → List ℕ → Bool
is_refused number refused = list_any (nat_eq number) refused

-- No access of this word is refused: from the number of its first to that of its last none is listed. A count that has
-- stopped stays at the last number of 64 bits, and so does the number of each access then: it isn't listed either.
abbrev pub RefusesNone : {S : Type 0} → FaultyState S → List Letter → Type 0
RefusesNone s word =
    (number : ℕ) → count_up s.accesses ≤ number → number ≤ s.accesses + length word
    → is_refused number s.refused ≡ false

-- A refused access answers its general fault and leaves what is inside; any other is an access of it.
abbrev pub Reaches : {S : Type 0} → Bool → (S → Letter → S → Type 0) → S → Letter → S → Type 0
Reaches true step old l new = IsFault l × (new ≡ old)
Reaches false step old l new = step old l new

pub record IsInjectedFault {S : Type 0} (step : S → Letter → S → Type 0) (old : FaultyState S) (l : Letter)
    (new : FaultyState S) : Type 0 where
  pub accesses : new.accesses ≡ count_up old.accesses
  pub inside : Reaches (is_refused new.accesses old.refused) step old.inner l new.inner
  pub refused : new.refused ≡ old.refused
  pub counters : new.counters ≡ counters_after l old.counters

module _ {S : Type 0} (step : S → Letter → S → Type 0) (a b : FaultyState S) (word : List Letter) where
  -- A word is one of the storage inside of which any access may be refused,
  abbrev pub IsRefusableInside : Type 0
  IsRefusableInside = Run (IsInjectedFault step) a word b → Run (MayRefuse step) a.inner word b.inner

  -- and where none of its accesses is refused it is one of the storage inside, whatever was refused before.
  abbrev pub IsFaultlessInside : Type 0
  IsFaultlessInside = Run (IsInjectedFault step) a word b → RefusesNone a word → Run step a.inner word b.inner
