-- A storage that keeps the latest accesses of another.
use Rattle.std.specs.Prelude.{◌≡◌, ℕ, ◌-◌, ◌≤◌, List, [], ◌∷◌, ◌++◌, length, map, drop}
use Rattle.iceoryx2_access.specs.Counts.{count_up, CountsEach}
use Rattle.iceoryx2_access.specs.Letter.{Letter}
use Rattle.iceoryx2_access.specs.Run.{Run}
use Rattle.iceoryx2_testing.specs.Entries.{entry_of}
use Rattle.iceoryx2_testing.specs.declared.traced.entry.TracedAccess.{TracedAccess}

-- the accesses that are kept, oldest first, how many there is room for, and how many accesses there were
pub record TraceState : Type 0 where
  pub entries : List TracedAccess
  pub room : ℕ
  pub total : ℕ

-- the storage inside, with them
pub record TracedState (S : Type 0) : Type 0 where
  pub inner : S
  pub entries : List TracedAccess
  pub room : ℕ
  pub total : ℕ

-- Nothing is kept, and no access was counted.
pub record IsNew {S : Type 0} (a : TracedState S) : Type 0 where
  pub empty : a.entries ≡ []
  pub uncounted : a.total ≡ 0

-- the last so many of a list, or all where there are no more
abbrev pub latest : {A : Type 0} → ℕ → List A → List A
latest room xs = drop (length xs - room) xs

-- An access of the storage inside, which is kept after the others.
pub record IsTracedAccess {S : Type 0} (step : S → Letter → S → Type 0) (old : TracedState S) (l : Letter)
    (new : TracedState S) : Type 0 where
  pub inside : step old.inner l new.inner
  pub entries : new.entries ≡ latest old.room (old.entries ++ entry_of l ∷ [])
  pub room : new.room ≡ old.room
  pub total : new.total ≡ count_up old.total

-- What a word makes of a traced storage.
module _ {S : Type 0} (step : S → Letter → S → Type 0) (a b : TracedState S) (word : List Letter) where
  -- Its accesses follow upon those that were there, and the latest of them all are kept.
  abbrev pub KeepsLatest : Type 0
  KeepsLatest = Run (IsTracedAccess step) a word b
      → length a.entries ≤ a.room → b.entries ≡ latest a.room (a.entries ++ map entry_of word)

  -- From a new storage, or one that was cleared, they are those of the latest accesses.
  abbrev pub KeepsItsLatest : Type 0
  KeepsItsLatest = Run (IsTracedAccess step) a word b
      → a.entries ≡ [] → b.entries ≡ latest a.room (map entry_of word)

  -- Never are there more than there is room for,
  abbrev pub StaysWithinRoom : Type 0
  StaysWithinRoom = Run (IsTracedAccess step) a word b → length a.entries ≤ a.room → length b.entries ≤ a.room

  -- the room stays,
  abbrev pub KeepsItsRoom : Type 0
  KeepsItsRoom = Run (IsTracedAccess step) a word b → b.room ≡ a.room

  -- and each access counts.
  abbrev pub CountsAccesses : Type 0
  CountsAccesses = Run (IsTracedAccess step) a word b → CountsEach a.total word b.total
