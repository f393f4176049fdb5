use Rattle.iceoryx2_publish_subscribe_builder.proofs.Builders.{publish_subscribe_ends_at_once}
use Rattle.iceoryx2_publish_subscribe_builder.proofs.publish_subscribe.ends_at_once.Goals as goal

pub returns : goal.returns
returns c = publish_subscribe_ends_at_once
