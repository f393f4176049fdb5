use Rattle.std.proofs.Common.{rules}
use Rattle.iceoryx2_publish_subscribe_builder.proofs.publish_subscribe.BuilderClone.clone.Goals as goal

pub returns : goal.returns
returns g c = search rules
