use Rattle.std.proofs.Common.{rules}
use Rattle.iceoryx2_event_builder.proofs.event.demand.EventDemandPattern.into_published.Goals as goal

pub returns : goal.returns
returns c = search rules
