use Rattle.std.proofs.Common.{sym}
use Rattle.iceoryx2_rounds.proofs.Verdicts.{none_refused}
use Rattle.iceoryx2_publish_subscribe_builder.proofs.publish_subscribe.demand.PreparedDemandPattern.verify.Goals as goal

pub returns-in-Event : goal.returns-in-Event
returns-in-Event c = rw (← c.messaging_pattern.ensures.value, c.in-Event.is) (sym none_refused)

pub returns-in-RequestResponse : goal.returns-in-RequestResponse
returns-in-RequestResponse c = rw (← c.messaging_pattern.ensures.value, c.in-RequestResponse.is) (sym none_refused)
