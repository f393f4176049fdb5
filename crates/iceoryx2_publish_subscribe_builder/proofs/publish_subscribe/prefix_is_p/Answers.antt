use Rattle.std.proofs.Common.{rules}
use Rattle.iceoryx2_publish_subscribe_builder.proofs.publish_subscribe.prefix_is_p.Goals as goal

pub returns : goal.returns
returns c = search rules
