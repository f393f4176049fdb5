use Rattle.std.proofs.Common.{sym}
use Rattle.iceoryx2_rounds.proofs.Verdicts.{none_refused}
use Rattle.iceoryx2_event_builder.proofs.event.demand.EventDemandPattern.verify.Goals as goal

pub returns-in-PublishSubscribe : goal.returns-in-PublishSubscribe
returns-in-PublishSubscribe c = rw (← c.messaging_pattern.ensures.value, c.in-PublishSubscribe.is) (sym none_refused)

pub returns-in-RequestResponse : goal.returns-in-RequestResponse
returns-in-RequestResponse c = rw (← c.messaging_pattern.ensures.value, c.in-RequestResponse.is) (sym none_refused)
