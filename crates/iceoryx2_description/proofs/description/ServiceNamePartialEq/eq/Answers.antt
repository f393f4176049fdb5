use Rattle.std.proofs.Common.{rules}
use Rattle.iceoryx2_description.proofs.description.ServiceNamePartialEq.eq.Goals as goal

pub returns : goal.returns
returns c = search rules
