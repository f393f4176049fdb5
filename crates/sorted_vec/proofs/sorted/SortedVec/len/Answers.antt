use Rattle.std.proofs.Common.{sym, ◌∙◌}
use Rattle.finite_map.proofs.Maps.{len_is}
use Rattle.sorted_vec.proofs.sorted.SortedVec.len.Goals as goal

pub returns : goal.returns
returns g c = rw (← c.self.view_is) (c.self.invariant.counted ∙ sym (len_is g.K.Ord.cmp g.met.K.Ord.total _ c.self.invariant.sorted))
