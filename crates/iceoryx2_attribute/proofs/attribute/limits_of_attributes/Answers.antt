use Rattle.std.proofs.Common.{rules}
use Rattle.iceoryx2_attribute.proofs.attribute.limits_of_attributes.Goals as goal

pub returns-clause-max_value : goal.returns-clause-max_value
returns-clause-max_value c = search rules
