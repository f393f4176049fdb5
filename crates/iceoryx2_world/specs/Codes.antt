-- A code of worlds, so that they can be a model's value.
use Rattle.std.specs.Prelude.{◌≡◌, ℕ, Bool, cond, ◌==◌, List, [], refl, if◌then◌else◌}
use Rattle.std.specs.FinMap as map
use Rattle.iceoryx2_world.specs.Sets as set
use Rattle.std.specs.Coded.{Coded, code_by, coded×, coded_ℕ, coded_bool, coded_list}
use Rattle.iceoryx2_world.specs.declared.world.Participant.{Participant}
use Rattle.iceoryx2_world.specs.declared.world.Participant.TheVariants as who
use Rattle.iceoryx2_description.specs.declared.description.ServiceHash.{ServiceHash}
use Rattle.iceoryx2_world.specs.declared.world.Ticket.{Ticket}
use Rattle.iceoryx2_world.specs.declared.world.Phase.{Phase}
use Rattle.iceoryx2_world.specs.declared.world.Phase.TheVariants as at
use Rattle.iceoryx2_world.specs.declared.world.Row.{Row}
use Rattle.iceoryx2_world.specs.declared.world.Row.TheVariants as row
use Rattle.iceoryx2_world.specs.Orders.{hash_cmp, participant_cmp, place_cmp, tag_cmp}
use Rattle.iceoryx2_world.specs.World.{World, Segment, Tickets}

abbrev pub coded_hash : Coded ServiceHash
coded_hash = code_by (List ℕ) (coded_list coded_ℕ) (λ h. h.0) (λ l. record { 0 = l }) (λ _. refl)

abbrev to_participant : Participant → ℕ × ℕ
to_participant (who.Node n) = (0, n)
to_participant (who.Peer n) = (1, n)

abbrev from_participant : ℕ × ℕ → Participant
from_participant p = cond (p.0 == 0) (who.Node p.1) (who.Peer p.1)

pub back_participant : (p : Participant) → from_participant (to_participant p) ≡ p
back_participant (who.Node n) = refl
back_participant (who.Peer n) = refl

abbrev pub coded_participant : Coded Participant
coded_participant = code_by (ℕ × ℕ) (coded× coded_ℕ coded_ℕ) to_participant from_participant back_participant

abbrev to_phase : Phase → ℕ × (ℕ × ℕ)
to_phase at.Idle = (0, (0, 0))
to_phase (at.Read n) = (1, (n, 0))
to_phase (at.Locked n) = (2, (n, 0))
to_phase (at.Made n) = (3, (n, 0))
to_phase (at.Joined n k) = (4, (n, k))
to_phase (at.Leaving n) = (5, (n, 0))
to_phase (at.Cleared n) = (6, (n, 0))

abbrev from_phase : ℕ × (ℕ × ℕ) → Phase
from_phase p = let n = p.1.0 in
    if p.0 == 0 then at.Idle
    else if p.0 == 1 then at.Read n
    else if p.0 == 2 then at.Locked n
    else if p.0 == 3 then at.Made n
    else if p.0 == 4 then at.Joined n p.1.1
    else if p.0 == 5 then at.Leaving n
    else at.Cleared n

pub back_phase : (p : Phase) → from_phase (to_phase p) ≡ p
back_phase at.Idle = refl
back_phase (at.Read n) = refl
back_phase (at.Locked n) = refl
back_phase (at.Made n) = refl
back_phase (at.Joined n k) = refl
back_phase (at.Leaving n) = refl
back_phase (at.Cleared n) = refl

abbrev pub coded_phase : Coded Phase
coded_phase =
    code_by (ℕ × (ℕ × ℕ)) (coded× coded_ℕ (coded× coded_ℕ coded_ℕ)) to_phase from_phase back_phase

abbrev to_row : Row → ℕ × (ℕ × List ℕ)
to_row (row.Locked n) = (0, (n, []))
to_row (row.Published n b) = (1, (n, b))

abbrev from_row : ℕ × (ℕ × List ℕ) → Row
from_row p = cond (p.0 == 0) (row.Locked p.1.0) (row.Published p.1.0 p.1.1)

pub back_row : (r : Row) → from_row (to_row r) ≡ r
back_row (row.Locked n) = refl
back_row (row.Published n b) = refl

abbrev pub coded_row : Coded Row
coded_row =
    code_by (ℕ × (ℕ × List ℕ)) (coded× coded_ℕ (coded× coded_ℕ (coded_list coded_ℕ)))
    to_row from_row back_row

abbrev pub coded_segment : Coded Segment
coded_segment =
    code_by (ℕ × (ℕ × (set.FinSet participant_cmp × Bool)))
    (coded× coded_ℕ (coded× coded_ℕ (coded× (set.code coded_participant) coded_bool)))
    (λ s. (s.number, (s.capacity, (s.participants, s.marked))))
    (λ p. record { number = p.0; capacity = p.1.0; participants = p.1.1.0; marked = p.1.1.1 }) (λ _. refl)

abbrev pub coded_ticket : Coded Ticket
coded_ticket =
    code_by (ℕ × (ServiceHash × ℕ)) (coded× coded_ℕ (coded× coded_hash coded_ℕ))
    (λ t. (t.node, (t.hash, t.number)))
    (λ p. record { node = p.0; hash = p.1.0; number = p.1.1 }) (λ _. refl)

-- what stands for the services, and what nodes hold
abbrev Services : Type 0
Services = map.FinMap hash_cmp Row × (map.FinMap hash_cmp Segment × map.FinMap place_cmp Phase)

abbrev coded_services : Coded Services
coded_services =
    coded× (map.code coded_hash coded_row)
    (coded× (map.code coded_hash coded_segment) (map.code (coded× coded_participant coded_hash) coded_phase))

abbrev Holdings : Type 0
Holdings = set.FinSet tag_cmp × Tickets

abbrev coded_holdings : Coded Holdings
coded_holdings = coded× (set.code (coded× coded_ℕ coded_hash)) (map.code coded_ℕ coded_ticket)

abbrev pub coded_world : Coded World
coded_world =
    code_by (Services × (Holdings × ℕ)) (coded× coded_services (coded× coded_holdings coded_ℕ))
    (λ w. ((w.rows, (w.segments, w.phases)), ((w.tags, w.tickets), w.counter)))
    (λ p. record {
      rows = p.0.0;
      segments = p.0.1.0;
      phases = p.0.1.1;
      tags = p.1.0.0;
      tickets = p.1.0.1;
      counter = p.1.1;
    }) (λ _. refl)
