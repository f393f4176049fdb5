-- What a refused call leaves in the world.
use Rattle.std.specs.Prelude.{◌≡◌, ◌≢◌, ◌⊎◌, ◌<◌, ℕ, Bool, true, false, List, [], ◌++◌, Option, Some, None, Ok}
use Rattle.iceoryx2_description.specs.declared.description.ServiceHash.{ServiceHash}
use Rattle.iceoryx2_access.specs.Letter.{Letter}
use Rattle.iceoryx2_access.specs.Letter as letter
use Rattle.iceoryx2_world.specs.Sets as set
use Rattle.iceoryx2_world.specs.declared.world.Participant.TheVariants.{Node}
use Rattle.iceoryx2_world.specs.declared.world.Phase.{Phase}
use Rattle.iceoryx2_world.specs.declared.world.Row.{Row}
use Rattle.iceoryx2_world.specs.Orders.{tag_cmp}
use Rattle.iceoryx2_world.specs.World.{World, row_of, phase_of, begins, locked_number, row_number}
use Rattle.iceoryx2_world.specs.ServiceAgreement.{IsSpent}
use Rattle.iceoryx2_access.specs.Run.{Each, Run}
use Rattle.iceoryx2_world.specs.Interference.{LacksSegment, SameTickets, SameTags, IsFallibleUnder}
use Rattle.iceoryx2_rounds.specs.GivesBack.{Owned, OwnTag, OwnLock, OwnSegment}
use Rattle.iceoryx2_rounds.specs.Fronts.{number_got, is_left, GivesAllBack}

-- A removal is granted.
abbrev pub IsGranted : Letter → Type 0
IsGranted (letter.RemoveTag i h a) = a ≡ Ok tt
IsGranted (letter.RemoveSegment i h a) = a ≡ Ok tt
IsGranted (letter.RemoveDescription i h a) = a ≡ Ok tt
IsGranted _ = Unit {0}

-- Who was at this phase is there still, or holds nothing before and after: at most it has read.
abbrev pub HasAtMostRead : (old new : Phase) → Type 0
HasAtMostRead old new = (new ≡ old) ⊎ ((begins old ≡ true) × (begins new ≡ true))

-- No row has this number.
abbrev pub LacksRow : World → ServiceHash → ℕ → Type 0
LacksRow w h n = (x : Row) → row_of w h ≡ Some x → row_number x ≢ n

-- the tags, with the call's own where that is left
abbrev pub tags_after : Bool → set.FinSet tag_cmp → ℕ × ServiceHash → set.FinSet tag_cmp
tags_after false tags own = tags
tags_after true tags own = set.insert tags own

-- the number of a lock that this letter got is spent
abbrev pub SpendsNumber : ServiceHash → World → Letter → Type 0
SpendsNumber hash v (letter.Lock i h (Ok n)) = IsSpent v hash n
SpendsNumber hash v _ = Unit {0}

module _ (node : ℕ) (hash : ServiceHash) where
  -- of a call from w to v: the node is where it was, or has read
  abbrev pub NodeHasRead : (w v : World) → Type 0
  NodeHasRead w v = HasAtMostRead (phase_of w (Node node) hash) (phase_of v (Node node) hash)

  -- Of a call that had the lock of this number and gave it back: the node held nothing before, and the number is
  -- spent. The lock is gone, and the node has read at most, unless the lock's removal was refused: then the node has it
  -- still. The segment of the number is gone unless the removal of that was refused.
  pub record LeavesGivenBack (n : ℕ) (is_lock_left is_segment_left : Bool) (w v : World) : Type 0 where
    pub begun : begins (phase_of w (Node node) hash) ≡ true
    pub below : n < v.counter
    pub unlocked : is_lock_left ≡ false → (begins (phase_of v (Node node) hash) ≡ true) × LacksRow v hash n
    pub locked : is_lock_left ≡ true → locked_number (phase_of v (Node node) hash) ≡ Some n
    pub segment : is_segment_left ≡ false → LacksSegment v hash n

  -- A call that got no lock has read at most.
  abbrev pub LeavesOfLock : (got : Option ℕ) → (left : Owned → Bool) → (w v : World) → Type 0
  LeavesOfLock None left w v = NodeHasRead w v
  LeavesOfLock (Some n) left w v = LeavesGivenBack n (left OwnLock) (left OwnSegment) w v

  -- All that stays of a word that got the lock of this number, if any, and by which such things are left: of tickets
  -- and tags these are those of own nodes.
  pub record Leaves (own : ℕ → Bool) (got : Option ℕ) (left : Owned → Bool) (w v : World) : Type 0 where
    pub tickets : SameTickets own w.tickets v.tickets
    pub tags : SameTags own (tags_after (left OwnTag) w.tags (node, hash)) v.tags
    pub of_lock : LeavesOfLock got left w v

  -- Nothing of the call's own stays: the node has read at most, and the number of each lock that it got is spent.
  pub record LeavesNothing (own : ℕ → Bool) (word : List Letter) (w v : World) : Type 0 where
    pub tickets : SameTickets own w.tickets v.tickets
    pub tags : SameTags own w.tags v.tags
    pub phase : NodeHasRead w v
    pub numbers : Each (SpendsNumber hash v) word

  -- What was given back of a lock never comes again: no row has its number, and no segment unless that was left.
  abbrev pub IsGone : ℕ → (is_segment_left : Bool) → World → Type 0
  IsGone n false v = IsSpent v hash n
  IsGone n true v = (n < v.counter) × LacksRow v hash n

  abbrev pub StaysAway : (got : Option ℕ) → (left : Owned → Bool) → World → Type 0
  StaysAway None left v = Unit {0}
  StaysAway (Some n) left v = left OwnLock ≡ false → IsGone n (left OwnSegment) v

  -- What the rounds of an open or create leave, one after the other, of which the last ends in this world: each is a
  -- run, it leaves only that for which a removal was refused, and the numbers of the locks that it gave back whole are
  -- spent in the end.
  pub data LeavesByRounds (own : ℕ → Bool) (w end : World) : List Letter → World → Type 0 where
    no_round : LeavesByRounds own w end [] w
    one_more : {u v : List Letter} {x y : World} → LeavesByRounds own w end u x → Run (IsFallibleUnder own) x v y
        → (g : GivesAllBack node hash v) → Leaves own (number_got v) (is_left g.back) x y
        → StaysAway (number_got v) (is_left g.back) end → LeavesByRounds own w end (u ++ v) y
