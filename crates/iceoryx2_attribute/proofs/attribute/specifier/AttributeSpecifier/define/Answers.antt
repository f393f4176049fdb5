use Rattle.std.proofs.Common.{rules}
use Rattle.iceoryx2_attribute.proofs.attribute.specifier.AttributeSpecifier.define.Goals as goal

pub returns : goal.returns
returns c = search rules
