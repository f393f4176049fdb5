use Rattle.std.proofs.Common.{rules}
use Rattle.iceoryx2_rounds.proofs.requested.RequestedTypes.prepare.Goals as goal

pub returns : goal.returns
returns c = search rules
