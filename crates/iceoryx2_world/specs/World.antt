-- The world of the table: what stands for each service, where each participant is, and what nodes hold. And
-- what there is to read in a world, in a phase and in a row.
use Rattle.std.specs.Prelude.{ℕ, Bool, true, false, ◌&&◌, ◌==◌, Option, Some, None, filter, length}
use Rattle.std.specs.FinMap as map
use Rattle.iceoryx2_world.specs.Sets as set
use Rattle.std.specs.Ordering.{nat_cmp, eq_by_cmp}
use Rattle.std.specs.declared.cmp.Ordering.{Ordering}
use Rattle.iceoryx2_world.specs.declared.world.Participant.{Participant}
use Rattle.iceoryx2_description.specs.declared.description.ServiceHash.{ServiceHash}
use Rattle.iceoryx2_world.specs.declared.world.Phase.{Phase}
use Rattle.iceoryx2_world.specs.declared.world.Phase.TheVariants as phases
use Rattle.iceoryx2_world.specs.declared.world.Ticket.{Ticket}
use Rattle.iceoryx2_world.specs.declared.world.Row.{Row}
use Rattle.iceoryx2_world.specs.declared.world.Row.TheVariants as row
use Rattle.iceoryx2_world.specs.Orders.{hash_cmp, participant_cmp, place_cmp, tag_cmp}

pub record Segment : Type 0 where
  pub number : ℕ
  pub capacity : ℕ
  pub participants : set.FinSet participant_cmp
  pub marked : Bool

abbrev pub Tickets : Type 0
Tickets = map.FinMap nat_cmp Ticket

pub record World : Type 0 where
  pub rows : map.FinMap hash_cmp Row
  pub segments : map.FinMap hash_cmp Segment
  -- who is absent is Idle
  pub phases : map.FinMap place_cmp Phase
  pub tags : set.FinSet tag_cmp
  pub tickets : Tickets
  pub counter : ℕ

abbrev pub row_of : World → ServiceHash → Option Row
row_of w h = map.get w.rows h

abbrev pub segment_of : World → ServiceHash → Option Segment
segment_of w h = map.get w.segments h

abbrev pub or_idle : Option Phase → Phase
or_idle None = phases.Idle
or_idle (Some x) = x

abbrev pub phase_of : World → Participant → ServiceHash → Phase
phase_of w p h = or_idle (map.get w.phases (p, h))

abbrev pub tag_of : World → ℕ → ServiceHash → Bool
tag_of w i h = set.contains w.tags (i, h)

abbrev pub ticket_of : World → ℕ → Option Ticket
ticket_of w t = map.get w.tickets t

-- it is a ticket of this node for this service
abbrev pub belongs : ℕ → ServiceHash → ℕ × Ticket → Bool
belongs i h e = e.1.node == i && eq_by_cmp hash_cmp e.1.hash h

-- how many tickets a node has for a service
abbrev pub ticket_count : Tickets → ℕ → ServiceHash → ℕ
ticket_count k i h = length (filter (belongs i h) (map.entries k))

-- how often a participant has joined
abbrev pub join_count : Phase → ℕ
join_count (phases.Joined n k) = k
join_count _ = 0

abbrev pub count_of : World → Participant → ServiceHash → ℕ
count_of w p h = join_count (phase_of w p h)

-- what a phase says: the participant holds nothing
abbrev pub begins : Phase → Bool
begins phases.Idle = true
begins (phases.Read n) = true
begins _ = false

-- the number whose lock it holds
abbrev pub locked_number : Phase → Option ℕ
locked_number (phases.Locked n) = Some n
locked_number (phases.Made n) = Some n
locked_number _ = None

-- the number at which it is registered
abbrev pub joined_number : Phase → Option ℕ
joined_number (phases.Joined n k) = Some n
joined_number _ = None

-- it was the last one to leave, and has to remove what is left
abbrev pub is_last : Phase → Bool
is_last (phases.Leaving n) = true
is_last (phases.Cleared n) = true
is_last _ = false

-- the number that a phase speaks of
abbrev pub phase_number : Phase → Option ℕ
phase_number phases.Idle = None
phase_number (phases.Read n) = Some n
phase_number (phases.Locked n) = Some n
phase_number (phases.Made n) = Some n
phase_number (phases.Joined n k) = Some n
phase_number (phases.Leaving n) = Some n
phase_number (phases.Cleared n) = Some n

abbrev pub row_number : Row → ℕ
row_number (row.Locked n) = n
row_number (row.Published n b) = n

-- at the key there is this value now, or nothing
abbrev pub set_to : {K X : Type 0} {R : K → K → Ordering} → map.FinMap R X → K → Option X → map.FinMap R X
set_to m k None = map.remove m k
set_to m k (Some v) = map.insert m k v

abbrev pub unless_idle : Phase → Option Phase
unless_idle phases.Idle = None
unless_idle x = Some x

-- Nothing is there, and the counter begins at this number.
abbrev pub empty_world : ℕ → World
empty_world c = record {
  rows = map.empty;
  segments = map.empty;
  phases = map.empty;
  tags = set.empty;
  tickets = map.empty;
  counter = c;
}
