-- A log in memory.
use Rattle.std.specs.Prelude.{◌≡◌, ℕ, Bool, true, false, ◌&&◌, ◌||◌, List, [], ◌∷◌, ◌++◌, nat_eq, nat_lt, not}
use Rattle.std.specs.Prelude.{Result, Ok, Err}
use Rattle.std.specs.List.{list_any}
use Rattle.iceoryx2_access.specs.Counts.{count_up}
use Rattle.iceoryx2_log.specs.declared.entry.Entry.{Entry}
use Rattle.iceoryx2_log.specs.declared.log.LogError.{LogError}
use Rattle.iceoryx2_log.specs.declared.log.LogError.TheVariants.{Busy, OutOfMemory, Failed, Damaged, Moved}
use Rattle.iceoryx2_log.specs.Log.{Contents, accepted}

pub record LogState : Type 0 where
  pub contents : Contents
  -- what this handle has appended, in order
  pub appended : List Entry
  -- what others append before the next holds, a batch for each
  pub batches : List (List Entry)
  pub held : Bool
  -- whether it was looked at since it was held or let go of last
  pub looks : Bool
  -- whether the first of the unread entries was shown
  pub shown : Bool
  -- how often was asked to hold it or to look at it, and which of these find it busy, counted from 1
  pub holds : ℕ
  pub busy : List ℕ
  -- how often was asked to append, and which of these are refused, counted from 1
  pub appends : ℕ
  pub refused : List ℕ
  -- how many pauses each wait has
  pub pauses : ℕ

-- The number is one of these.
abbrev pub is_listed : ℕ → List ℕ → Bool
is_listed number numbers = list_any (nat_eq number) numbers

abbrev pub none_unread : List Entry → Bool
none_unread [] = true
none_unread (e ∷ entries) = false

-- ---- hold

-- one more hold was asked for
abbrev pub hold_counted : LogState → LogState
hold_counted s = record s { holds = count_up s.holds }

-- Others have appended these.
abbrev pub grown : LogState → List Entry → LogState
grown s come = record s { contents = record s.contents { unread = s.contents.unread ++ come } }

-- The next batch has come, where one waits.
abbrev pub with_batch : LogState → List (List Entry) → LogState
with_batch s [] = s
with_batch s (batch ∷ batches) = record (grown s batch) { batches = batches }

-- What each answer of a hold says of the log before, and what it leaves. It is refused where the log is held already,
-- which is tested first.
abbrev pub Holds : LogState → Result (Unit {0}) LogError → LogState → Type 0
Holds old (Ok _) new = (old.held ≡ false) × (is_listed (count_up old.holds) old.busy ≡ false)
    × (new ≡ record (with_batch (hold_counted old) old.batches) { held = true })
Holds old (Err Failed) new = (old.held ≡ true) × (new ≡ hold_counted old)
Holds old (Err Busy) new = (old.held ≡ false) × (is_listed (count_up old.holds) old.busy ≡ true)
    × (new ≡ hold_counted old)
Holds old (Err OutOfMemory) new = (old.held ≡ false) × (is_listed (count_up old.holds) old.busy ≡ false)
    × (new ≡ hold_counted old)
Holds old (Err Damaged) new = ⊥
Holds old (Err Moved) new = ⊥

-- What each answer of a look says of the log before, and what it leaves: the same as of a hold, but the log isn't held.
abbrev pub Looks : LogState → Result (Unit {0}) LogError → LogState → Type 0
Looks old (Ok _) new = (old.held ≡ false) × (is_listed (count_up old.holds) old.busy ≡ false)
    × (new ≡ record (with_batch (hold_counted old) old.batches) { looks = true })
Looks old (Err why) new = Holds old (Err why) new

-- It is held, or was looked at.
abbrev pub may_read : LogState → Bool
may_read s = s.held || s.looks

-- neither held nor looked at
abbrev pub freed : LogState → LogState
freed s = record s { held = false; looks = false }

-- ---- accept

-- The first of the unread entries is taken over, where it was shown.
abbrev pub accepted_where : Bool → LogState → Contents
accepted_where true s = accepted s.contents.begins s.contents.taken s.contents.unread
accepted_where false s = s.contents

-- ---- append

abbrev pub append_counted : LogState → LogState
append_counted s = record s { appends = count_up s.appends }

-- It is held, nothing is unread, and this append isn't one of those that are refused.
abbrev pub may_append : LogState → Bool
may_append s = s.held && none_unread s.contents.unread && not (is_listed (count_up s.appends) s.refused)

-- What each answer of an append says of the log before, and what it leaves.
abbrev pub AppendsOne : LogState → Entry → Result (Unit {0}) LogError → LogState → Type 0
AppendsOne old e (Ok _) new = (may_append old ≡ true) × (new ≡ record (append_counted old) {
  contents = record old.contents { taken = old.contents.taken ++ e ∷ [] };
  appended = old.appended ++ e ∷ [];
})
AppendsOne old e (Err OutOfMemory) new = (may_append old ≡ true) × (new ≡ append_counted old)
AppendsOne old e (Err Failed) new = (may_append old ≡ false) × (new ≡ append_counted old)
AppendsOne old e (Err Busy) new = ⊥
AppendsOne old e (Err Damaged) new = ⊥
AppendsOne old e (Err Moved) new = ⊥

-- ---- pause

-- Whether there is a pause of this number, and what it leaves.
abbrev pub Pauses : LogState → ℕ → Bool → LogState → Type 0
Pauses old number true new = (nat_lt number old.pauses ≡ true) × (new ≡ freed old)
Pauses old number false new = (nat_lt number old.pauses ≡ false) × (new ≡ old)
