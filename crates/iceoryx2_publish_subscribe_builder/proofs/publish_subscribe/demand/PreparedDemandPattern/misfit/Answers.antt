use Rattle.std.proofs.Common.{rules}
use Rattle.iceoryx2_publish_subscribe_builder.proofs.publish_subscribe.demand.PreparedDemandPattern.misfit.Goals as goal

pub returns-else-is_compatible_to : goal.returns-else-is_compatible_to
returns-else-is_compatible_to c = search rules
