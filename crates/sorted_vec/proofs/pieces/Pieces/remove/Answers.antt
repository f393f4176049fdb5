use Rattle.std.proofs.Common.{rules, ◌≡◌, ◌<◌, ◌-◌, length, get_or, subst, sym, ap, ◌∙◌}
use Rattle.finite_map.specs.Sorted.{Sorted}
use Rattle.sorted_vec.proofs.Index.{other_is, other_there}
use Rattle.sorted_vec.proofs.pieces.Pieces.remove.Goals as goal

pub remove-requires-2 : goal.remove-requires-2
remove-requires-2 g c =
    let f = c.self.inside.first in
    let os = c.self.inside.others.items in
    let b = c.index_mut.result.now in
    let behind : 0 < c.args.i = search rules in
    let read : get_or os (c.args.i - 1) b ≡ b = search rules in
    let within = rw (← c.self.view_is) at c.requires in
    subst (λ (x : Sorted g.row.K.Denot g.row.V.Denot). c.args.at < length x.entries)
    (other_is f os c.args.i b behind (other_there f os c.args.i c.args.at behind within) read) within

pub returns-clause-entry : goal.returns-clause-entry
returns-clause-entry g c =
    let f = c.self.inside.first in
    let os = c.self.inside.others.items in
    let b = c.index_mut.result.now in
    let x = c.remove-2.result in
    let behind : 0 < c.args.i = search rules in
    let read : get_or os (c.args.i - 1) b ≡ b = search rules in
    let within = rw (← c.self.view_is) at c.requires in
    let is = other_is f os c.args.i b behind (other_there f os c.args.i c.args.at behind within) read in
    rw (← c.self.view_is) (c.remove-2.ensures.entry ∙ ap (λ (y : Sorted g.row.K.Denot g.row.V.Denot). get_or y.entries c.args.at x) (sym is))
