use Rattle.std.proofs.Common.{rules}
use Rattle.iceoryx2_event_builder.proofs.event.BuilderClone.clone.Goals as goal

pub returns : goal.returns
returns g c = search rules
