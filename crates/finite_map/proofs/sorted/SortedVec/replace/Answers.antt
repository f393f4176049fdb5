use Rattle.std.proofs.Common.{rules}
use Rattle.finite_map.proofs.sorted.SortedVec.replace.Goals as goal

pub returns-in-Some-clause-value : goal.returns-in-Some-clause-value
returns-in-Some-clause-value g c = search rules
