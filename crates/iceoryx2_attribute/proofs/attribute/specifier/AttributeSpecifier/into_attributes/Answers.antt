use Rattle.std.proofs.Common.{rules}
use Rattle.iceoryx2_attribute.proofs.attribute.specifier.AttributeSpecifier.into_attributes.Goals as goal

pub returns-clause-value : goal.returns-clause-value
returns-clause-value c = search rules
