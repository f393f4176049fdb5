use Rattle.iceoryx2_attribute.proofs.Pairs.{none_fit}
use Rattle.iceoryx2_attribute.proofs.attribute.set.AttributeSet.new.Goals as goal

pub invariant_of-result : goal.invariant_of-result
invariant_of-result c = rw c.new.ensures.items none_fit

pub returns-clause-limits : goal.returns-clause-limits
returns-clause-limits c = rw c.new.ensures.items none_fit
