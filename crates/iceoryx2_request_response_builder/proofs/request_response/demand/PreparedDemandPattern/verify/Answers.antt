use Rattle.std.proofs.Common.{sym}
use Rattle.iceoryx2_rounds.proofs.Verdicts.{none_refused}
use Rattle.iceoryx2_request_response_builder.proofs.request_response.demand.PreparedDemandPattern.verify.Goals as goal

pub returns-in-Event : goal.returns-in-Event
returns-in-Event c = rw (← c.messaging_pattern.ensures.value, c.in-Event.is) (sym none_refused)

pub returns-in-PublishSubscribe : goal.returns-in-PublishSubscribe
returns-in-PublishSubscribe c = rw (← c.messaging_pattern.ensures.value, c.in-PublishSubscribe.is) (sym none_refused)
