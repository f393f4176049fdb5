use Rattle.std.proofs.Common.{rules}
use Rattle.iceoryx2_session.proofs.slots.Slots.put.Goals as goal

pub returns : goal.returns
returns c = search rules
