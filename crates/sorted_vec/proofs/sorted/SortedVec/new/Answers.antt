use Rattle.sorted_vec.proofs.Kept.{none_map}
use Rattle.sorted_vec.proofs.sorted.SortedVec.new.Goals as goal

pub returns : goal.returns
returns g c = none_map g.K.Ord.cmp c.new.result c.new.ensures.none
