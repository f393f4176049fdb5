-- What stands for the services, and how a step of one participant changes it.
use Rattle.std.specs.Prelude.{◌≡◌, refl, ℕ, List, Bool, true, false, Option, Some, None, Result, Ok, Err}
use Rattle.std.specs.Option.{option_map}
use Rattle.std.specs.FinMap as map
use Rattle.finite_map.specs.Places.{place_in}
use Rattle.std.specs.Coded.{Coded, code_by, coded×, coded_ℕ}
use Rattle.std.specs.declared.alloc.AllocError.{AllocError}
use Rattle.iceoryx2_description.specs.declared.description.ServiceHash.{ServiceHash}
use Rattle.iceoryx2_description.specs.Description.{Description}
use Rattle.iceoryx2_world.specs.declared.world.Participant.{Participant}
use Rattle.iceoryx2_world.specs.declared.world.Phase.{Phase}
use Rattle.iceoryx2_world.specs.declared.world.Phase.TheVariants as at
use Rattle.iceoryx2_world.specs.declared.world.Row.{Row}
use Rattle.iceoryx2_world.specs.declared.world.Row.TheVariants as row
use Rattle.iceoryx2_table.specs.declared.rows.RowState.{RowState}
use Rattle.iceoryx2_table.specs.declared.rows.RowState.TheVariants as state
use Rattle.iceoryx2_table.specs.declared.services.Position.{Position}
use Rattle.iceoryx2_access.specs.declared.storage.Release.{Release as Released}
use Rattle.iceoryx2_world.specs.Sets as set
use Rattle.iceoryx2_world.specs.Orders.{hash_cmp, place_cmp, tag_cmp}
use Rattle.iceoryx2_world.specs.World.{World, Segment, set_to, or_idle, unless_idle, Tickets}
use Rattle.iceoryx2_world.specs.Acts.{Act}
use Rattle.iceoryx2_world.specs.Acts as act
use Rattle.iceoryx2_world.specs.Steps.{ServiceView, view_after, fits, has_room, has_others, with_one, without_one, without_any}
use Rattle.iceoryx2_world.specs.Batches.{needs_room}
use Rattle.iceoryx2_world.specs.Codes.{coded_hash, coded_row, coded_segment, coded_participant, coded_phase}
use Rattle.iceoryx2_world.specs.Access.{release_answer}

pub record ServicesState : Type 0 where
  pub rows : map.FinMap hash_cmp Row
  pub segments : map.FinMap hash_cmp Segment
  -- who is absent is Idle
  pub phases : map.FinMap place_cmp Phase
  pub counter : ℕ

abbrev pub ServicesParts : Type 0
ServicesParts = map.FinMap hash_cmp Row × (map.FinMap hash_cmp Segment × (map.FinMap place_cmp Phase × ℕ))

abbrev pub coded_phases : Coded (map.FinMap place_cmp Phase)
coded_phases = map.code (coded× coded_participant coded_hash) coded_phase

abbrev pub coded_services : Coded ServicesState
coded_services = code_by ServicesParts
    (coded× (map.code coded_hash coded_row)
    (coded× (map.code coded_hash coded_segment) (coded× coded_phases coded_ℕ)))
    (λ w. (w.rows, (w.segments, (w.phases, w.counter))))
    (λ p. record { rows = p.0; segments = p.1.0; phases = p.1.1.0; counter = p.1.1.1 })
    (λ _. refl)

-- the row that is kept as these parts
abbrev pub row_with : Bool → ℕ → List ℕ → Row
row_with true n b = row.Published n b
row_with false n b = row.Locked n

-- what a row tells without its bytes
abbrev pub IsStateOf : Row → RowState → Type 0
IsStateOf r (state.Locked n) = r ≡ row.Locked n
IsStateOf r (state.Published n) = (b : List ℕ) × (r ≡ row.Published n b)

-- the bytes of a row, where it is published
abbrev pub HasBytes : Row → List ℕ → Type 0
HasBytes (row.Published n b) bytes = bytes ≡ b
HasBytes (row.Locked n) bytes = Unit {0}

-- where the phase stands, or would stand, and the phase
abbrev pub position_in : map.FinMap place_cmp Phase → Participant × ServiceHash → Position
position_in m q = record { place = place_in m q; phase = or_idle (map.get m q) }

-- the number of what is published
abbrev pub published_number : Option Row → Option ℕ
published_number (Some (row.Published n b)) = Some n
published_number _ = None

-- what a step of p at h changes, where it is allowed
abbrev pub step_at : ServicesState → Participant → ServiceHash → Act → Option ServiceView
step_at b p h a =
    view_after p h a (or_idle (map.get b.phases (p, h))) (map.get b.rows h) (map.get b.segments h) b.counter

abbrev pub with_view : ServicesState → Participant → ServiceHash → ServiceView → ServicesState
with_view b p h s = record {
  rows = set_to b.rows h s.row;
  segments = set_to b.segments h s.segment;
  phases = set_to b.phases (p, h) (unless_idle s.phase);
  counter = s.counter;
}

-- the step is allowed, and has its effect
abbrev pub StepsTo : ServicesState → Participant → ServiceHash → Act → ServicesState → Type 0
StepsTo b p h a c = (s : ServiceView) × (step_at b p h a ≡ Some s) × (c ≡ with_view b p h s)

-- a step without memory: it has its effect, or it is forbidden and nothing changes
abbrev pub StepsOrStays : ServicesState → Participant → ServiceHash → Act → Bool → ServicesState → Type 0
StepsOrStays b p h a true c = StepsTo b p h a c
StepsOrStays b p h a false c = (step_at b p h a ≡ None) × (c ≡ b)

-- the step is allowed, and found no memory
abbrev pub Starves : ServicesState → Participant → ServiceHash → Act → ServicesState → Type 0
Starves b p h a c =
    (s : ServiceView) × (step_at b p h a ≡ Some s)
    × (needs_room a (or_idle (map.get b.phases (p, h))) ≡ true) × (c ≡ b)

-- a step that may run out of memory
abbrev pub MayTakeStep : ServicesState → Participant → ServiceHash → Act → Result Bool AllocError → ServicesState
    → Type 0
MayTakeStep b p h a (Ok done) c = StepsOrStays b p h a done c
MayTakeStep b p h a (Err e) c = Starves b p h a c

-- a leave, with what it leaves
abbrev pub TakesLeave : ServicesState → Participant → ServiceHash → Option Released → ServicesState → Type 0
TakesLeave b p h (Some r) c =
    (s : ServiceView) × (step_at b p h act.Leave ≡ Some s) × (r ≡ release_answer s.phase) × (c ≡ with_view b p h s)
TakesLeave b p h None c = (step_at b p h act.Leave ≡ None) × (c ≡ b)

-- there is a segment that the description fits
abbrev pub segment_fits : ServiceHash → Option Segment → Description → Bool
segment_fits h None d = false
segment_fits h (Some s) d = fits h s d

-- the segment takes one more
abbrev pub Admits : ℕ → Participant → Segment → Result Bool AllocError → Segment → Type 0
Admits n p s (Ok true) t = (has_room n s ≡ true) × (t ≡ with_one p s)
Admits n p s (Ok false) t = (has_room n s ≡ false) × (t ≡ s)
Admits n p s (Err e) t = (has_room n s ≡ true) × (t ≡ s)

-- one goes who is not the last, or the segment is marked
abbrev pub Dismisses : Participant → Segment → Bool → Segment → Type 0
Dismisses p s true t = (has_others s ≡ true) × (t ≡ without_one p s)
Dismisses p s false t = (has_others s ≡ false) × (t ≡ without_any s)

-- the phase of who takes the segment away, where it may
abbrev pub TakesSegment : Phase → Option Phase → Type 0
TakesSegment x o =
    (p : Participant) (h : ServiceHash) (r : Option Row) (s : Option Segment) (c : ℕ)
    → view_after p h act.RemoveSegment x r s c
    ≡ option_map (λ y. record { phase = y; row = r; segment = None; counter = c }) o

-- who takes the description away, where it may, holds nothing
abbrev pub TakesDescription : Phase → Bool → Type 0
TakesDescription x true =
    (p : Participant) (h : ServiceHash) (r : Option Row) (s : Option Segment) (c : ℕ)
    → view_after p h act.RemoveDescription x r s c
    ≡ Some (record { phase = at.Idle; row = None; segment = s; counter = c })
TakesDescription x false =
    (p : Participant) (h : ServiceHash) (r : Option Row) (s : Option Segment) (c : ℕ)
    → view_after p h act.RemoveDescription x r s c ≡ None

-- the world of the services, the tags and the tickets
abbrev pub world_with : ServicesState → set.FinSet tag_cmp → Tickets → World
world_with b t k =
    record { rows = b.rows; segments = b.segments; phases = b.phases; tags = t; tickets = k; counter = b.counter }
