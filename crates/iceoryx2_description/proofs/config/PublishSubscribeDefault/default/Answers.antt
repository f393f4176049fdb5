use Rattle.std.proofs.Common.{refl}
use Rattle.iceoryx2_description.proofs.config.PublishSubscribeDefault.default.Goals as goal

pub returns : goal.returns
returns c = refl
