-- What a handle of a log knows of it, and what each call makes of that.
use Rattle.std.specs.Prelude.{◌≡◌, ℕ, Bool, true, false, List, [], ◌∷◌, ◌++◌, Option, Some, None, Result, Ok, Err}
use Rattle.iceoryx2_log.specs.declared.entry.Entry.{Entry}

-- What stands in the place where a handle is: the entries that it has taken over or appended, in order, and those that
-- stand behind them.
pub record Contents : Type 0 where
  -- the number with which the counter begins before the first of them
  pub begins : ℕ
  pub taken : List Entry
  pub unread : List Entry

-- The contents are related so, where they are known. What is known stays known, and a file's never are.
abbrev pub WhereKnown : (Contents → Contents → Type 0) → Option Contents → Option Contents → Type 0
WhereKnown step (Some old) (Some new) = step old new
WhereKnown step None None = Unit {0}
WhereKnown step (Some old) None = ⊥
WhereKnown step None (Some new) = ⊥

-- Entries of others have come behind the unread ones.
pub record Grows (old new : Contents) : Type 0 where
  pub come : List Entry
  pub begins : new.begins ≡ old.begins
  pub taken : new.taken ≡ old.taken
  pub unread : new.unread ≡ old.unread ++ come

-- the first one, where there is one
abbrev pub first : List Entry → Option Entry
first [] = None
first (e ∷ entries) = Some e

-- The first of the unread entries was found, and stays where it is.
abbrev pub Shows : Option Entry → Contents → Contents → Type 0
Shows found old new = (found ≡ first old.unread) × (new ≡ old)

-- whether an entry was found
abbrev pub is_shown : {E : Type 0} → Result (Option Entry) E → Bool
is_shown (Ok (Some e)) = true
is_shown (Ok None) = false
is_shown (Err error) = false

-- with the first of the unread entries taken over, where there is one
abbrev pub accepted : (begins : ℕ) → (taken unread : List Entry) → Contents
accepted begins taken [] = record { begins = begins; taken = taken; unread = [] }
accepted begins taken (e ∷ unread) = record { begins = begins; taken = taken ++ e ∷ []; unread = unread }

abbrev pub Accepts : Contents → Contents → Type 0
Accepts old new = new ≡ accepted old.begins old.taken old.unread

-- Nothing was unread, and the entry is the last one now.
pub record Appends (e : Entry) (old new : Contents) : Type 0 where
  pub none_unread : old.unread ≡ []
  pub begins : new.begins ≡ old.begins
  pub taken : new.taken ≡ old.taken ++ e ∷ []
  pub unread : new.unread ≡ []

-- ---- another place

-- It stands before the first entry of another place, where the counter begins with this number.
pub record Rejoins (counter : ℕ) (old new : Contents) : Type 0 where
  pub begins : new.begins ≡ counter
  pub taken : new.taken ≡ []

-- Nothing was unread, and it stands in a new place, behind these entries, which are all. There the counter begins
-- with 0.
pub record Compacts (snapshot : List Entry) (old new : Contents) : Type 0 where
  pub none_unread : old.unread ≡ []
  pub begins : new.begins ≡ 0
  pub taken : new.taken ≡ snapshot
  pub unread : new.unread ≡ []
