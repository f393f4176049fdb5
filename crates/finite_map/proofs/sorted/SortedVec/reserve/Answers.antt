use Rattle.std.proofs.Common.{arith}
use Rattle.finite_map.proofs.Maps.{len_is}
use Rattle.finite_map.proofs.sorted.SortedVec.reserve.Goals as goal

pub returns-clause-room : goal.returns-clause-room
returns-clause-room g c =
    let len = len_is g.K.Ord.cmp g.met.K.Ord.total c.self.inside.entries.items c.self.invariant in
    grind (arith, len, c.reserve.ensures.ok, c.reserve.ensures.items, c.self.view_is)

pub returns-clause-full : goal.returns-clause-full
returns-clause-full g c =
    let len = len_is g.K.Ord.cmp g.met.K.Ord.total c.self.inside.entries.items c.self.invariant in
    grind (arith, len, c.reserve.ensures.full, c.self.view_is)
