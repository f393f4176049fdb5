use Rattle.std.proofs.Common.{rules}
use Rattle.iceoryx2_description.proofs.time.Duration.new.Goals as goal

pub invariant_of-result : goal.invariant_of-result
invariant_of-result c = search rules
