-- What a process takes over of a log that others share, and why an entry isn't taken over.
use Rattle.std.specs.Prelude.{◌≡◌, ◌⊎◌, ℕ, Bool, true, false, nat_eq, List, [], ◌∷◌, ◌++◌}
use Rattle.std.specs.Prelude.{Option, Some, None, Result, Ok, Err, OnOk}
use Rattle.std.specs.List.{list_any}
use Rattle.iceoryx2_access.specs.Run.{Run, Each}
use Rattle.iceoryx2_world.specs.World.{World}
use Rattle.iceoryx2_log.specs.declared.entry.Entry.{Entry}
use Rattle.iceoryx2_log.specs.Log.{Contents, WhereKnown, first}
use Rattle.iceoryx2_journal.specs.declared.taking.Stop.{Stop}
use Rattle.iceoryx2_journal.specs.declared.taking.Stop.TheVariants as stop
use Rattle.iceoryx2_journal.specs.declared.taking.Next.{Next}
use Rattle.iceoryx2_journal.specs.declared.taking.Next.TheVariants as next
use Rattle.iceoryx2_journal.specs.Follow.{IsFollowed, Prepares, Differs}
use Rattle.iceoryx2_journal.specs.Snapshot.{IsSnapshot, StandsFor}

-- The node is one of these.
abbrev pub is_own : List ℕ → ℕ → Bool
is_own nodes i = list_any (nat_eq i) nodes

-- Entries of others may have come, and these, which stood in front, are taken over.
pub record Takes (entries : List Entry) (old new : Contents) : Type 0 where
  pub come : List Entry
  pub begins : new.begins ≡ old.begins
  pub taken : new.taken ≡ old.taken ++ entries
  pub unread : old.unread ++ come ≡ entries ++ new.unread

-- It is the next unread entry, where that is known.
abbrev pub IsNext : Entry → Option Contents → Type 0
IsNext e None = Unit {0}
IsNext e (Some c) = first c.unread ≡ Some e

-- Nothing is unread, where that is known.
abbrev pub IsAllTaken : Option Contents → Type 0
IsAllTaken None = Unit {0}
IsAllTaken (Some c) = c.unread ≡ []

-- Entries of nodes that aren't own have had their effect in order, and were taken over in the log.
pub record TakesOver (nodes : List ℕ) (w v : World) (old new : Option Contents) : Type 0 where
  pub entries : List Entry
  pub of_others : Each (λ e. is_own nodes e.node ≡ false) entries
  pub followed : Run IsFollowed w entries v
  pub taken : WhereKnown (Takes entries) old new

-- Nothing is taken over any more.
abbrev pub ends : Stop → Bool
ends stop.Later = false
ends stop.Moved = false
ends stop.Over = true

-- Why an entry isn't taken over, and what that leaves of the world: the entry stays unread.
pub data Stops (nodes : List ℕ) (log : Option Contents) (w : World) (s : Stop) (v : World) : Type 0 where
  -- the log isn't held, can't be read, or goes on in another place
  unread : ends s ≡ false → v ≡ w → Stops nodes log w s v
  -- there is no memory for another's entry: it can be followed again
  starved : (e : Entry) → s ≡ stop.Later → IsNext e log → is_own nodes e.node ≡ false
      → Prepares e.node e.hash e.operation w v → Stops nodes log w s v
  -- it is in an own node's name, and this process didn't append it: it isn't followed
  own : (e : Entry) → s ≡ stop.Over → IsNext e log → is_own nodes e.node ≡ true → v ≡ w → Stops nodes log w s v
  -- it isn't what the table answers to another's access
  disagrees : (e : Entry) → s ≡ stop.Over → IsNext e log → is_own nodes e.node ≡ false → Differs w e v
      → Stops nodes log w s v
  -- where the log went on elsewhere, others don't lead to what its snapshot comes to
  astray : s ≡ stop.Over → log ≡ None → v ≡ w → Stops nodes log w s v

-- The next entry is another's, has its effect, and is taken over.
pub record TakesOne (nodes : List ℕ) (w v : World) (old new : Option Contents) : Type 0 where
  pub entry : Entry
  pub of_other : is_own nodes entry.node ≡ false
  pub followed : IsFollowed w entry v
  pub taken : WhereKnown (Takes (entry ∷ [])) old new

-- What taking the next entry over comes to, by how it ends.
abbrev pub TakesNext : List ℕ → Next → World → World → Option Contents → Option Contents → Type 0
TakesNext nodes next.Taken w v old new = TakesOne nodes w v old new
TakesNext nodes next.Nothing w v old new = (v ≡ w) × (new ≡ old) × IsAllTaken new
TakesNext nodes (next.Stopped s) w v old new = Stops nodes new w s v × (new ≡ old)

-- There was no memory for the next entry, which is another's.
abbrev pub IsStarved : List ℕ → Option Contents → World → World → Type 0
IsStarved nodes log w v =
    (e : Entry) × IsNext e log × (is_own nodes e.node ≡ false) × Prepares e.node e.hash e.operation w v

-- A stop after which it may go on later comes only where the log showed no entry, or there was no memory for another's.
-- So one in an own node's name, and one that isn't what the table answers, end it.
abbrev pub IsLaterFor : List ℕ → (shown : Bool) → Next → World → World → Option Contents → Type 0
IsLaterFor nodes shown next.Taken w v log = Unit {0}
IsLaterFor nodes shown next.Nothing w v log = Unit {0}
IsLaterFor nodes shown (next.Stopped s) w v log = ends s ≡ false → (shown ≡ false) ⊎ IsStarved nodes log w v

-- Some were taken over before one was not.
pub record TakesSome (nodes : List ℕ) (s : Stop) (w v : World) (old new : Option Contents) : Type 0 where
  pub between : World
  pub takes : TakesOver nodes w between old new
  pub stops : Stops nodes new between s v

-- What taking all entries over comes to, by how it ends.
abbrev pub TakesAllOf : List ℕ → Result (Unit {0}) Stop → World → World → Option Contents → Option Contents → Type 0
TakesAllOf nodes (Ok x) w v old new = TakesOver nodes w v old new × IsAllTaken new
TakesAllOf nodes (Err s) w v old new = TakesSome nodes s w v old new

-- ---- where the log goes on in another place

-- What became of the next entry of a snapshot, by how it ends.
abbrev pub RestoresNext : Next → World → World → Option Contents → Option Contents → Type 0
RestoresNext next.Taken w v old new = (e : Entry) × IsFollowed w e v × WhereKnown (Takes (e ∷ [])) old new
RestoresNext next.Nothing w v old new = (v ≡ w) × (new ≡ old)
RestoresNext (next.Stopped s) w v old new = new ≡ old

-- Entries were taken over, each with its effect on the world where all were.
pub record Restores (r : Result (Unit {0}) Stop) (w v : World) (old new : Option Contents) : Type 0 where
  pub entries : List Entry
  pub taken : WhereKnown (Takes entries) old new
  pub followed : OnOk r (Run IsFollowed w entries v)

-- The handle has taken a whole snapshot over, from this number on, which comes to the world.
pub record IsRestored (counter : ℕ) (w : World) (old new : Option Contents) : Type 0 where
  pub entries : List Entry
  pub taken : WhereKnown (Takes entries) old new
  pub is_snapshot : IsSnapshot counter entries w

-- The handle stands in another place. Some of these entries lead from the world to one for which the snapshot there
-- stands. The rest were taken over behind the snapshot, and lead on from there.
pub record Arrives (w : World) (entries : List Entry) (v : World) (new : Contents) : Type 0 where
  pub snapshot : List Entry
  pub before : List Entry
  pub since : List Entry
  pub parts : entries ≡ before ++ since
  pub taken : new.taken ≡ snapshot ++ since
  pub at : World
  pub leads : Run IsFollowed w before at
  pub goes_on : Run IsFollowed at since v
  pub stands_for : StandsFor new.begins snapshot at

-- What becomes of the place and its entries, by whether the process was lost, and is: whether its world isn't what is
-- taken in its log's place.
pub data Comes (was is : Bool) (w : World) (entries : List Entry) (v : World) (old new : Contents) : Type 0 where
  -- it stays, and the entries are taken over there
  stays : was ≡ false → Takes entries old new → Comes was is w entries v old new
  -- it comes to another place, and its world to what is taken there
  arrives : is ≡ false → Arrives w entries v new → Comes was is w entries v old new
  -- it is lost: nothing is claimed of the place
  strays : is ≡ true → Comes was is w entries v old new

-- Entries of nodes that aren't own have had their effect in order, wherever the log goes on.
pub record Reaches (nodes : List ℕ) (was is : Bool) (w v : World) (old new : Option Contents) : Type 0 where
  pub entries : List Entry
  pub of_others : Each (λ e. is_own nodes e.node ≡ false) entries
  pub followed : Run IsFollowed w entries v
  pub taken : WhereKnown (Comes was is w entries v) old new

-- what a process knows of its place, which is nothing where it is lost
abbrev pub seen : (is_lost : Bool) → Option Contents → Option Contents
seen true c = None
seen false c = c

-- Some have had their effect before one was not taken over.
pub record ReachesSome (nodes : List ℕ) (was is : Bool) (s : Stop) (w v : World) (old new : Option Contents)
    : Type 0 where
  pub between : World
  pub reaches : Reaches nodes was is w between old new
  pub stops : Stops nodes (seen is new) between s v

-- What taking all over comes to, wherever the log goes on, by how it ends.
abbrev pub ReachesAllOf : List ℕ → Result (Unit {0}) Stop → (was is : Bool) → World → World
    → Option Contents → Option Contents → Type 0
ReachesAllOf nodes (Ok x) was is w v old new = Reaches nodes was is w v old new × IsAllTaken new × (is ≡ false)
ReachesAllOf nodes (Err s) was is w v old new = ReachesSome nodes was is s w v old new

-- What going to another place comes to, by how it ends. Whoever doesn't arrive is lost.
abbrev pub CatchesUp : List ℕ → Result (Unit {0}) Stop → World → World → Option Contents → Option Contents → Type 0
CatchesUp nodes (Ok x) w v old new = Reaches nodes true false w v old new
CatchesUp nodes (Err s) w v old new = ReachesSome nodes true true s w v old new

-- The log stays where it is, or goes on in a new place, whose snapshot stands for the world.
abbrev pub IsCompacted : World → Contents → Contents → Type 0
IsCompacted w old new = (new ≡ old) ⊎ (StandsFor new.begins new.taken w × (new.unread ≡ []))
