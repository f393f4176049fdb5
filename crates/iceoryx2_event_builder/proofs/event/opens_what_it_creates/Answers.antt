use Rattle.iceoryx2_event_builder.proofs.Builders.{event_builder}
use Rattle.iceoryx2_event_builder.proofs.event.opens_what_it_creates.Goals as goal

pub returns : goal.returns
returns c = λ demand. event_builder demand
