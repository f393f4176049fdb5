-- What may happen between two accesses of one's own nodes: what these rely on, who acts so, and accesses after it.
use Rattle.std.specs.Prelude.{◌≡◌, ◌≢◌, ℕ, Bool, true, false, Some}
use Rattle.std.specs.FinMap as map
use Rattle.iceoryx2_world.specs.Sets as set
use Rattle.iceoryx2_world.specs.Orders.{tag_cmp}
use Rattle.iceoryx2_description.specs.declared.description.ServiceHash.{ServiceHash}
use Rattle.iceoryx2_world.specs.declared.world.Participant.TheVariants.{Node, Peer}
use Rattle.iceoryx2_world.specs.declared.world.Ticket.{Ticket}
use Rattle.iceoryx2_world.specs.World.{World, Segment, Tickets, segment_of, phase_of, locked_number}
use Rattle.iceoryx2_world.specs.Acts.{Act, IsAct}
use Rattle.iceoryx2_world.specs.Steps.{world_after}
use Rattle.iceoryx2_world.specs.ServiceAgreement.{Later, IsSpent}
use Rattle.iceoryx2_world.specs.Agreement.{Agrees}
use Rattle.iceoryx2_world.specs.Access.{IsOwnPart}
use Rattle.iceoryx2_access.specs.Letter.{Letter, acting_node}
use Rattle.iceoryx2_access.specs.MayRefuse.{MayRefuse}

-- No segment of the service has this number.
abbrev pub LacksSegment : World → ServiceHash → ℕ → Type 0
LacksSegment w h n = (x : Segment) → segment_of w h ≡ Some x → x.number ≢ n

-- The own nodes have the same tickets, whatever others have. `own` tells which nodes are one's own.
pub record SameTickets (own : ℕ → Bool) (old new : Tickets) : Type 0 where
  pub kept : (t : ℕ) (x : Ticket) → own x.node ≡ true → map.get old t ≡ Some x → map.get new t ≡ Some x
  pub no_other : (t : ℕ) (x : Ticket) → own x.node ≡ true → map.get new t ≡ Some x → map.get old t ≡ Some x

-- The own nodes have the same tags.
abbrev pub SameTags : (own : ℕ → Bool) → (old new : set.FinSet tag_cmp) → Type 0
SameTags own old new = (i : ℕ) (h : ServiceHash) → own i ≡ true → set.contains new (i, h) ≡ set.contains old (i, h)

-- All that own nodes rely on is kept.
pub record KeepsOwn (own : ℕ → Bool) (w v : World) : Type 0 where
  -- the new world agrees, and is a later one
  pub agrees : Agrees v
  pub later : Later w v
  -- each own node is at each service where it was, with the tags and the tickets that it had
  pub phases : (i : ℕ) (h : ServiceHash) → own i ≡ true → phase_of v (Node i) h ≡ phase_of w (Node i) h
  pub tags : SameTags own w.tags v.tags
  pub tickets : SameTickets own w.tickets v.tickets
  -- a spent number stays spent, and while an own node has the lock of a number no segment of that comes
  pub spent : (h : ServiceHash) (n : ℕ) → IsSpent w h n → IsSpent v h n
  pub locked : (i : ℕ) (h : ServiceHash) (n : ℕ) → own i ≡ true
      → locked_number (phase_of w (Node i) h) ≡ Some n → LacksSegment w h n → LacksSegment v h n

-- What own nodes rely on, whoever acts: in a world that agrees all this is kept. Of other worlds nothing is asked.
abbrev pub Rely : (own : ℕ → Bool) → World → World → Type 0
Rely own w v = Agrees w → KeepsOwn own w v

-- Any number of steps of peers and of accesses of nodes that aren't one's own, each with its effect, in any order.
pub data Others (own : ℕ → Bool) : World → World → Type 0 where
  nobody : {w : World} → Others own w w
  peer_acts : {u v w : World} (id : ℕ) (h : ServiceHash) (act : Act)
      → IsAct act → world_after u (Peer id) h act ≡ Some v → Others own v w → Others own u w
  node_acts : {u v w : World} (l : Letter)
      → own (acting_node l) ≡ false → IsOwnPart u l v → Others own v w → Others own u w

-- One step, after what happens before it.
pub record After (happens : World → World → Type 0) (step : World → Letter → World → Type 0)
    (w : World) (l : Letter) (v : World) : Type 0 where
  pub between : World
  pub before : happens w between
  pub part : step between l v

-- Under interference, whatever it be that the own nodes can rely on: an access with its answer,
abbrev pub IsAccessUnder : (own : ℕ → Bool) → World → Letter → World → Type 0
IsAccessUnder own = After (Rely own) IsOwnPart

-- and one that may be refused: it answers, or it answers the general fault and changes nothing.
abbrev pub IsFallibleUnder : (own : ℕ → Bool) → World → Letter → World → Type 0
IsFallibleUnder own = After (Rely own) (MayRefuse IsOwnPart)

-- Where every node is one's own others are peers alone, as at a table.
abbrev pub everyone : ℕ → Bool
everyone i = true

abbrev pub IsAccess : World → Letter → World → Type 0
IsAccess = IsAccessUnder everyone

abbrev pub IsFallibleAccess : World → Letter → World → Type 0
IsFallibleAccess = IsFallibleUnder everyone
