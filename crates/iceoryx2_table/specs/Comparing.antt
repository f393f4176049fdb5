-- How rows, segments and phases are compared.
use Rattle.std.specs.Bool.{beq}
use Rattle.std.specs.Prelude.{ℕ, Bool, true, not, ◌==◌, ◌&&◌, List, Option, Some, None, bytes_eq, filter}
use Rattle.std.specs.Cmp.Lexicographic.{pointwise}
use Rattle.std.specs.FinMap as map
use Rattle.std.specs.Option.{option_eq}
use Rattle.iceoryx2_description.specs.declared.description.ServiceHash.{ServiceHash}
use Rattle.iceoryx2_world.specs.declared.world.Participant.{Participant}
use Rattle.iceoryx2_world.specs.declared.world.Phase.{Phase}
use Rattle.iceoryx2_world.specs.declared.world.Row.{Row}
use Rattle.iceoryx2_world.specs.declared.world.Row.TheVariants as row
use Rattle.iceoryx2_world.specs.contracts.world.ParticipantPartialEq.TheImpl as participants
use Rattle.iceoryx2_world.specs.contracts.world.PhasePartialEq.TheImpl as phases
use Rattle.iceoryx2_description.specs.contracts.description.ServiceHashPartialEq.TheImpl as hashes
use Rattle.iceoryx2_world.specs.World.{Segment, row_number, begins}

-- the bytes of what is published
abbrev pub row_bytes : Row → Option (List ℕ)
row_bytes (row.Locked n) = None
row_bytes (row.Published n b) = Some b

abbrev pub same_row : Row → Row → Bool
same_row r s = row_number r == row_number s && option_eq bytes_eq (row_bytes r) (row_bytes s)

abbrev pub same_member : Participant × Unit {0} → Participant × Unit {0} → Bool
same_member p q = participants.ghosts.eq p.0 q.0 && true

abbrev pub same_segment : Segment → Segment → Bool
same_segment s t =
    (s.number == t.number && s.capacity == t.capacity)
    && (beq s.marked t.marked && pointwise same_member (map.entries s.participants) (map.entries t.participants))

abbrev pub PhaseEntries : Type 0
PhaseEntries = List ((Participant × ServiceHash) × Phase)

-- those that are neither Idle nor Read
abbrev pub settled_phases : PhaseEntries → PhaseEntries
settled_phases es = filter (λ e. not (begins e.1)) es

-- where a participant is with a service
abbrev pub same_place : (Participant × ServiceHash) × Phase → (Participant × ServiceHash) × Phase → Bool
same_place x y = (participants.ghosts.eq x.0.0 y.0.0 && hashes.ghosts.eq x.0.1 y.0.1) && phases.ghosts.eq x.1 y.1
