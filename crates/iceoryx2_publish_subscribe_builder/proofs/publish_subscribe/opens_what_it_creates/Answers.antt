use Rattle.iceoryx2_publish_subscribe_builder.proofs.Builders.{publish_subscribe_builder}
use Rattle.iceoryx2_publish_subscribe_builder.proofs.publish_subscribe.opens_what_it_creates.Goals as goal

pub returns : goal.returns
returns c = λ demand message. publish_subscribe_builder demand message
