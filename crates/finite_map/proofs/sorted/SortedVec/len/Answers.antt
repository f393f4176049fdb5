use Rattle.std.proofs.Common.{rules, ◌≡◌, length, sym, ◌∙◌}
use Rattle.finite_map.proofs.Maps.{len_is}
use Rattle.finite_map.proofs.sorted.SortedVec.len.Goals as goal

pub returns : goal.returns
returns g c =
    let es = c.self.inside.entries.items in
    let read : c.len.result ≡ length es = search rules in
    rw (← c.self.view_is) (read ∙ sym (len_is g.K.Ord.cmp g.met.K.Ord.total es c.self.invariant))
