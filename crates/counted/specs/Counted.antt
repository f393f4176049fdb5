-- A storage that counts the accesses of another.
use Rattle.std.specs.Prelude.{◌≡◌, ℕ, List}
use Rattle.iceoryx2_access.specs.Counts.{count_up, CountsEach}
use Rattle.iceoryx2_access.specs.Letter.{Letter}
use Rattle.iceoryx2_access.specs.Run.{Run}

-- the storage inside, and how many accesses there were
pub record CountedState (S : Type 0) : Type 0 where
  pub inner : S
  pub total : ℕ

-- An access of the storage inside, which counts.
pub record IsCountedAccess {S : Type 0} (step : S → Letter → S → Type 0) (old : CountedState S) (l : Letter)
    (new : CountedState S) : Type 0 where
  pub inside : step old.inner l new.inner
  pub total : new.total ≡ count_up old.total

-- What a word makes of a counted storage.
module _ {S : Type 0} (step : S → Letter → S → Type 0) (a b : CountedState S) (word : List Letter) where
  -- It is the same word of the storage inside,
  abbrev pub GoesInside : Type 0
  GoesInside = Run (IsCountedAccess step) a word b → Run step a.inner word b.inner

  -- and each access counts.
  abbrev pub CountsAccesses : Type 0
  CountsAccesses = Run (IsCountedAccess step) a word b → CountsEach a.total word b.total
