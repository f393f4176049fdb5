use Rattle.std.proofs.Common.{rules}
use Rattle.iceoryx2_event_builder.proofs.event.demand.EventDemandPattern.misfit.Goals as goal

pub returns-in-PublishSubscribe : goal.returns-in-PublishSubscribe
returns-in-PublishSubscribe c = search rules
