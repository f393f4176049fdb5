use Rattle.std.proofs.Common.{rules}
use Rattle.iceoryx2_types.proofs.types.alignment.Alignment.new.Goals as goal

pub invariant_of-result : goal.invariant_of-result
invariant_of-result c = search rules
