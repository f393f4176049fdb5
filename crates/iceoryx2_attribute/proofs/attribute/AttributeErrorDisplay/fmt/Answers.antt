use Rattle.std.proofs.Common.{rules}
use Rattle.iceoryx2_attribute.proofs.attribute.AttributeErrorDisplay.fmt.Goals as goal

pub returns-in-KeyLength-clause-writes : goal.returns-in-KeyLength-clause-writes
returns-in-KeyLength-clause-writes g c = search rules
