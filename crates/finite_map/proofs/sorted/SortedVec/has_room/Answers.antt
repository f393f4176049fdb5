use Rattle.std.proofs.Common.{rules}
use Rattle.finite_map.proofs.sorted.SortedVec.has_room.Goals as goal

pub returns : goal.returns
returns g c = search rules
