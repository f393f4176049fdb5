use Rattle.iceoryx2_event_builder.proofs.Builders.{event_ends_at_once}
use Rattle.iceoryx2_event_builder.proofs.event.ends_at_once.Goals as goal

pub returns : goal.returns
returns c = event_ends_at_once
