use Rattle.std.proofs.Common.{rules, ◌≡◌, ◌<◌, ◌≤◌, ◌-◌, length, get_or, subst}
use Rattle.finite_map.specs.Sorted.{Sorted}
use Rattle.sorted_vec.proofs.Index.{other_is, other_roomy}
use Rattle.sorted_vec.proofs.pieces.Pieces.insert.Goals as goal

pub insert-requires-else-i-eq0-clause-in_range : goal.insert-requires-else-i-eq0-clause-in_range
insert-requires-else-i-eq0-clause-in_range g c =
    let f = c.self.inside.first in
    let os = c.self.inside.others.items in
    let b = c.index_mut.result.now in
    let behind : 0 < c.args.i = search rules in
    let read : get_or os (c.args.i - 1) b ≡ b = search rules in
    let is = other_is f os c.args.i b behind (other_roomy f os c.args.i behind (rw (← c.self.view_is) at c.requires.room)) read in
    subst (λ (x : Sorted g.row.K.Denot g.row.V.Denot). c.args.at ≤ length x.entries) is (rw (← c.self.view_is) at c.requires.in_range)

pub insert-requires-else-i-eq0-clause-room : goal.insert-requires-else-i-eq0-clause-room
insert-requires-else-i-eq0-clause-room g c =
    let f = c.self.inside.first in
    let os = c.self.inside.others.items in
    let b = c.index_mut.result.now in
    let behind : 0 < c.args.i = search rules in
    let read : get_or os (c.args.i - 1) b ≡ b = search rules in
    let is = other_is f os c.args.i b behind (other_roomy f os c.args.i behind (rw (← c.self.view_is) at c.requires.room)) read in
    subst (λ (x : Sorted g.row.K.Denot g.row.V.Denot). length x.entries < x.capacity) is (rw (← c.self.view_is) at c.requires.room)
