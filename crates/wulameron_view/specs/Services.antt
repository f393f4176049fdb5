-- Which services a world has, and who is in them.
use Rattle.std.specs.Prelude.{◌≡◌, ℕ, Bool, ◌&&◌, ◌||◌, List, [], ◌∷◌, Option, Some, None}
use Rattle.std.specs.List.{find, flat_map}
use Rattle.std.specs.List.Sorted.{IsPermutation, IsSorted}
use Rattle.std.specs.Option.{option_map}
use Rattle.std.specs.FinMap as map
use Rattle.std.specs.Ordering.{nat_cmp, ordering_then, eq_by_cmp}
use Rattle.std.specs.Cmp.Lexicographic.{slice_cmp}
use Rattle.std.specs.declared.cmp.Ordering.{Ordering}
use Rattle.iceoryx2_description.specs.declared.description.ServiceHash.{ServiceHash}
use Rattle.iceoryx2_description.specs.declared.description.MessagingPattern.{MessagingPattern}
use Rattle.iceoryx2_description.specs.declared.description.MessagingPattern.TheVariants as pattern
use Rattle.iceoryx2_data.specs.Form.{IsForm}
use Rattle.iceoryx2_world.specs.declared.world.Participant.{Participant}
use Rattle.iceoryx2_world.specs.declared.world.Participant.TheVariants.{Node, Peer}
use Rattle.iceoryx2_world.specs.declared.world.Phase.{Phase}
use Rattle.iceoryx2_world.specs.declared.world.Row.{Row}
use Rattle.iceoryx2_world.specs.declared.world.Row.TheVariants as row
use Rattle.iceoryx2_world.specs.Access.{has_lock, has_made}
use Rattle.iceoryx2_world.specs.Orders.{hash_cmp}
use Rattle.iceoryx2_world.specs.World.{World, Segment, segment_of, count_of}
use Rattle.wulameron_view.specs.declared.services.Member.{Member}
use Rattle.wulameron_view.specs.declared.services.Service.{Service}
use Rattle.wulameron_view.specs.declared.services.Creation.{Creation}
use Rattle.wulameron_view.specs.declared.services.Services.{Services}

-- ---- who is in a service

-- the node of who is in it, with how many factories it has; a peer is no node
abbrev pub member_of : World → ServiceHash → Participant × Unit {0} → List Member
member_of w h (Node i, _) = record { node = i; factories = count_of w (Node i) h } ∷ []
member_of w h (Peer i, _) = []

-- Each node in the segment once, by rising number.
abbrev pub members_of : World → ServiceHash → List (Participant × Unit {0}) → List Member
members_of w h ps = flat_map (member_of w h) ps

-- ---- a service that is published

-- What is known of the service of this row: the row is published, its bytes are the description's, and the segment
-- stands beside it.
pub record IsService (w : World) (h : ServiceHash) (r : Row) (s : Service) : Type 0 where
  pub bytes : List ℕ
  pub segment : Segment
  pub row : r ≡ row.Published s.number bytes
  pub form : IsForm s.description bytes
  pub beside : segment_of w h ≡ Some segment
  pub hash : s.hash ≡ h
  pub room : s.max_nodes ≡ segment.capacity
  pub members : s.members.items ≡ members_of w h (map.entries segment.participants)

-- it is the row's service, or the row has none
abbrev pub IsServiceOf : World → ServiceHash → Row → Option Service → Type 0
IsServiceOf w h r (Some s) = IsService w h r s
IsServiceOf w h r None = (s : Service) → IsService w h r s → ⊥

-- The services of these rows, in the order of the rows. A row that has none is left out.
pub data AreServices (w : World) : List (ServiceHash × Row) → List Service → Type 0 where
  none : AreServices w [] []
  one : {e : ServiceHash × Row} {rows : List (ServiceHash × Row)} {s : Service} {services : List Service}
      → IsService w e.0 e.1 s → AreServices w rows services → AreServices w (e ∷ rows) (s ∷ services)
  other : {e : ServiceHash × Row} {rows : List (ServiceHash × Row)} {services : List Service}
      → IsServiceOf w e.0 e.1 None → AreServices w rows services → AreServices w (e ∷ rows) services

-- events, then publish-subscribe, then request-response
abbrev pub rank : MessagingPattern → ℕ
rank (pattern.Event s) = 0
rank (pattern.PublishSubscribe s) = 1
rank (pattern.RequestResponse s) = 2

-- by the name's bytes, then by pattern, then by hash
abbrev pub service_cmp : Service → Service → Ordering
service_cmp s t =
    ordering_then (slice_cmp nat_cmp s.description.name t.description.name)
    (ordering_then (nat_cmp (rank s.description.pattern) (rank t.description.pattern)) (hash_cmp s.hash t.hash))

-- ---- a service that is being created

-- it is where the holder of this service's lock is
abbrev pub is_holder : ServiceHash → ℕ → (Participant × ServiceHash) × Phase → Bool
is_holder h n e = eq_by_cmp hash_cmp e.0.1 h && (has_lock n e.1 || has_made n e.1)

abbrev pub node_of : Option Participant → Option ℕ
node_of (Some (Node i)) = Some i
node_of (Some (Peer i)) = None
node_of None = None

-- the node that holds the service's lock of this number
abbrev pub holder_of : World → ServiceHash → ℕ → Option ℕ
holder_of w h n = node_of (option_map (λ e. e.0.0) (find (is_holder h n) (map.entries w.phases)))

abbrev pub creation_of : World → ServiceHash × Row → List Creation
creation_of w (h, row.Locked n) = record { hash = h; number = n; node = holder_of w h n } ∷ []
creation_of w (h, row.Published n bytes) = []

-- ---- all of a world

-- Each service of the world is listed once, and nothing else: those that are published by name, pattern and hash, and
-- those that are being created by hash.
pub record AreServicesOf (w : World) (all : Services) : Type 0 where
  pub by_hash : List Service
  pub services : AreServices w (map.entries w.rows) by_hash
  pub same : IsPermutation by_hash all.published.items
  pub ordered : IsSorted service_cmp all.published.items
  pub creations : all.creations.items ≡ flat_map (creation_of w) (map.entries w.rows)
