use Rattle.std.proofs.Common.{rules}
use Rattle.finite_map.proofs.Maps.{from_nil}
use Rattle.finite_map.proofs.sorted.SortedVec.clear.Goals as goal

pub returns-clause-effect : goal.returns-clause-effect
returns-clause-effect c = search (rules, from_nil)
