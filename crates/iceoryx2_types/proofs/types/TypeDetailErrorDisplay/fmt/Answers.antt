use Rattle.std.proofs.Common.{rules}
use Rattle.iceoryx2_types.proofs.types.TypeDetailErrorDisplay.fmt.Goals as goal

pub returns-in-Alignment-clause-writes : goal.returns-in-Alignment-clause-writes
returns-in-Alignment-clause-writes c = search rules
