use Rattle.std.proofs.Common.{rules}
use Rattle.iceoryx2_attribute.proofs.attribute.set.Attribute.compare.Goals as goal

pub returns : goal.returns
returns c = search rules
