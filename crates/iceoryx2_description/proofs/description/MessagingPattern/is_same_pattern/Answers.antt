use Rattle.std.proofs.Common.{rules}
use Rattle.iceoryx2_description.proofs.description.MessagingPattern.is_same_pattern.Goals as goal

pub returns-in-Event-PublishSubscribe : goal.returns-in-Event-PublishSubscribe
returns-in-Event-PublishSubscribe c = search rules
