use Rattle.sorted_vec.proofs.Kept.{none_kept, none_map}
use Rattle.sorted_vec.proofs.sorted.SortedVec.clear.Goals as goal

pub invariant_of-self : goal.invariant_of-self
invariant_of-self g c = none_kept g.K.Ord.cmp c.clear.new.self c.self.inside.most c.clear.ensures.none c.clear.ensures.one c.self.invariant.parts

pub returns : goal.returns
returns g c = none_map g.K.Ord.cmp c.clear.new.self c.clear.ensures.none
