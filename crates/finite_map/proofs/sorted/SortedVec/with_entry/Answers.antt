use Rattle.std.proofs.Common.{rules}
use Rattle.finite_map.proofs.Ranks.{place_empty}
use Rattle.finite_map.proofs.sorted.SortedVec.with_entry.Goals as goal

pub returns : goal.returns
returns g c = search (rules, place_empty)
