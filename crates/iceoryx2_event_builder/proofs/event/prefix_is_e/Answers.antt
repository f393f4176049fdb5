use Rattle.std.proofs.Common.{rules}
use Rattle.iceoryx2_event_builder.proofs.event.prefix_is_e.Goals as goal

pub returns : goal.returns
returns c = search rules
