use Rattle.sorted_vec.proofs.Kept.{none_kept, none_map}
use Rattle.sorted_vec.proofs.sorted.SortedVec.in_pieces.Goals as goal

pub invariant_of-result : goal.invariant_of-result
invariant_of-result g c = none_kept g.K.Ord.cmp c.new.result c.args.most c.new.ensures.none c.new.ensures.one c.requires

pub returns : goal.returns
returns g c = none_map g.K.Ord.cmp c.new.result c.new.ensures.none
