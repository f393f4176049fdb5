use Rattle.std.proofs.Common.{sym, ◌∙◌}
use Rattle.finite_map.proofs.Maps.{len_is}
use Rattle.finite_map.proofs.chunks.ChunkedMapFiniteMap.len.Goals as goal

pub returns : goal.returns
returns g c = rw (← c.self.view_is) (c.self.invariant.2 ∙ sym (len_is g.K.Ord.cmp g.met.K.Ord.total _ c.self.invariant.0))
