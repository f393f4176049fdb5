use Rattle.std.proofs.Common.{sym, ◌∙◌}
use Rattle.finite_map.proofs.Maps.{entries_are}
use Rattle.finite_map.proofs.sorted.SortedVec.entries.Goals as goal

pub returns : goal.returns
returns g c = rw (← c.self.view_is) (c.as_slice.ensures.value ∙ sym (entries_are g.K.Ord.cmp g.met.K.Ord.total c.self.inside.entries.items c.self.invariant))
