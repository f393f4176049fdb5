-- The quiet machine: what a table holds that nobody else uses, service by service.
use Rattle.std.specs.Prelude.{◌≡◌, ℕ, ◌≤◌, Bool, true, false, Option, Some, None, is_some}
use Rattle.std.specs.FinMap as map
use Rattle.std.specs.Ordering.{nat_cmp}
use Rattle.iceoryx2_description.specs.declared.description.ServiceHash.{ServiceHash}
use Rattle.iceoryx2_description.specs.Description.{Description, IsDescription, max_nodes_of}
use Rattle.iceoryx2_data.specs.Form as form
use Rattle.iceoryx2_world.specs.Sets as set
use Rattle.iceoryx2_world.specs.declared.world.Participant.{Participant}
use Rattle.iceoryx2_world.specs.declared.world.Participant.TheVariants.{Node, Peer}
use Rattle.iceoryx2_world.specs.declared.world.Phase.{Phase}
use Rattle.iceoryx2_world.specs.declared.world.Phase.TheVariants as at
use Rattle.iceoryx2_world.specs.declared.world.Row.{Row}
use Rattle.iceoryx2_world.specs.declared.world.Row.TheVariants as row
use Rattle.iceoryx2_world.specs.Orders.{hash_cmp, participant_cmp}
use Rattle.iceoryx2_world.specs.World.{World, Segment, row_of, segment_of, phase_of, begins, tag_of}

-- how often each node has opened a service
abbrev pub NodeCounts : Type 0
NodeCounts = map.FinMap nat_cmp ℕ

pub record QuietService : Type 0 where
  pub description : Description
  pub number : ℕ
  pub counts : NodeCounts

-- The state of the machine: the next number, and the services by hash.
pub record Quiet : Type 0 where
  pub counter : ℕ
  pub services : map.FinMap hash_cmp QuietService

-- no service, and the next number is this
abbrev pub no_service : ℕ → Quiet
no_service c = record { counter = c; services = map.empty }

abbrev pub service_at : Quiet → ServiceHash → Option QuietService
service_at q h = map.get q.services h

abbrev pub times_counted : QuietService → ℕ → Option ℕ
times_counted x i = map.get x.counts i

abbrev pub is_counted : QuietService → Participant → Bool
is_counted x (Node i) = is_some (times_counted x i)
is_counted x (Peer i) = false

-- The node's phase by its count at the service of this number.
abbrev pub CountIs : ℕ → Phase → Option ℕ → Type 0
CountIs n x None = begins x ≡ true
CountIs n x (Some k) = (x ≡ at.Joined n k) × (1 ≤ k)

-- No service: no row, no segment, no tag, and no node is further than reading.
pub record IsNothingShown (r : Option Row) (s : Option Segment) (phase : ℕ → Phase) (tag : ℕ → Bool) : Type 0 where
  pub row : r ≡ None
  pub segment : s ≡ None
  pub phases : (i : ℕ) → begins (phase i) ≡ true
  pub tags : (i : ℕ) → tag i ≡ false

-- A service with this hash: its description is published under its number, the segment beside it
-- is unmarked and takes in its nodes and nobody else, and its nodes alone have tags.
pub record IsServiceShown (h : ServiceHash) (x : QuietService) (r : Option Row) (s : Option Segment)
    (phase : ℕ → Phase) (tag : ℕ → Bool) : Type 0 where
  pub limits : IsDescription x.description
  pub hash : x.description.hash ≡ h
  pub row : r ≡ Some (row.Published x.number (form.description x.description))
  pub nodes : set.FinSet participant_cmp
  pub segment : s ≡ Some (record {
    number = x.number;
    capacity = max_nodes_of x.description.pattern;
    participants = nodes;
    marked = false;
  })
  pub members : (p : Participant) → set.contains nodes p ≡ is_counted x p
  pub as_many : set.len nodes ≡ map.len x.counts
  pub one_or_more : 1 ≤ map.len x.counts
  pub phases : (i : ℕ) → CountIs x.number (phase i) (times_counted x i)
  pub tags : (i : ℕ) → tag i ≡ is_some (times_counted x i)

abbrev pub ShowsAt : ServiceHash → Option QuietService → Option Row → Option Segment → (ℕ → Phase)
    → (ℕ → Bool) → Type 0
ShowsAt h None r s phase tag = IsNothingShown r s phase tag
ShowsAt h (Some x) r s phase tag = IsServiceShown h x r s phase tag

-- What the world has at a hash is this service, or none.
abbrev pub ShowsService : World → ServiceHash → Option QuietService → Type 0
ShowsService w h o = ShowsAt h o (row_of w h) (segment_of w h) (λ i. phase_of w (Node i) h) (λ i. tag_of w i h)

-- The world shows the machine's state, hash by hash. Its tickets are told by the agreement of worlds.
pub record Shows (w : World) (q : Quiet) : Type 0 where
  pub counter : w.counter ≡ q.counter
  pub services : (h : ServiceHash) → ShowsService w h (service_at q h)
