use Rattle.std.proofs.Common.{rules}
use Rattle.iceoryx2_event_builder.proofs.event.demand.deadline_at_creation.Goals as goal

pub returns-in-Some : goal.returns-in-Some
returns-in-Some c = search rules
