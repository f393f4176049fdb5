use Rattle.std.proofs.Common.{rules}
use Rattle.iceoryx2_publish_subscribe_builder.proofs.publish_subscribe.demand.PreparedDemandPattern.settings_refusal.Goals as goal

pub returns-then-settings : goal.returns-then-settings
returns-then-settings c = search rules
