use Rattle.std.proofs.Common.{rules}
use Rattle.iceoryx2_publish_subscribe_builder.proofs.publish_subscribe.Builder.set.Goals as goal

pub returns-in-PayloadAlignment : goal.returns-in-PayloadAlignment
returns-in-PayloadAlignment g c = search rules
