use Rattle.std.proofs.Common.{refl}
use Rattle.iceoryx2_description.proofs.event.EventId.new.Goals as goal

pub returns : goal.returns
returns c = refl
