use Rattle.std.proofs.Common.{get_or, sym, subst, ap, ◌∙◌}
use Rattle.finite_map.specs.Sorted.{Sorted}
use Rattle.finite_map.specs.Chunks.{StandsIn}
use Rattle.sorted_vec.proofs.Kept.{got, got_none}
use Rattle.sorted_vec.proofs.sorted.SortedVec.value_at.Goals as goal

pub returns-in-Ok : goal.returns-in-Ok
returns-in-Ok g c =
    let cs = c.self.inside.pieces in
    let i = c.args.place.piece in
    let e = c.entry.result.now in
    let stands = subst (StandsIn g.K.Ord.cmp cs c.args.key.now i) c.in-Ok.is (rw (← c.self.view_is) at c.requires).0 in
    rw (← c.self.view_is) (sym (got g.K.Ord.cmp g.met.K.Ord.total cs c.self.inside.most c.self.inside.count c.self.invariant c.args.key.now i c.in-Ok.at e stands
    (ap (λ (x : Sorted g.row.K.Denot g.row.V.Denot). get_or x.entries c.in-Ok.at e) (sym c.piece.ensures) ∙ sym c.entry.ensures)))

pub returns-in-Err : goal.returns-in-Err
returns-in-Err g c =
    let cs = c.self.inside.pieces in
    let i = c.args.place.piece in
    let stands = subst (StandsIn g.K.Ord.cmp cs c.args.key.now i) c.in-Err.is (rw (← c.self.view_is) at c.requires).0 in
    rw (← c.self.view_is) (sym (got_none g.K.Ord.cmp g.met.K.Ord.total cs c.self.inside.most c.self.inside.count c.self.invariant c.args.key.now i _ stands))
