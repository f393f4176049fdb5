use Rattle.std.proofs.Common.{rules, ◌≡◌, get_or, sym, subst, ap, ◌∙◌}
use Rattle.finite_map.specs.Sorted.{Sorted}
use Rattle.finite_map.specs.Chunks.{StandsIn}
use Rattle.finite_map.proofs.Flats.{chunk_is, there}
use Rattle.finite_map.proofs.Stored.{got, got_none}
use Rattle.finite_map.proofs.chunks.ChunkedMapFiniteMap.get_at.Goals as goal

pub returns-in-Ok : goal.returns-in-Ok
returns-in-Ok g c =
    let cs = c.self.inside.chunks.items in
    let i = c.args.place.chunk in
    let b = c.index.result.now in
    let e = c.entry.result.now in
    let stands = subst (StandsIn g.K.Ord.cmp cs c.args.key.now i) c.in-Ok.is (rw (← c.self.view_is) at c.requires) in
    let read : get_or cs i b ≡ b = search rules in
    let is = chunk_is cs i b (there cs i c.in-Ok.at stands.0) read in
    rw (← c.self.view_is) (sym (got g.K.Ord.cmp g.met.K.Ord.total cs c.self.inside.count c.self.invariant c.args.key.now i c.in-Ok.at e stands
    (ap (λ (x : Sorted g.row.K.Denot g.row.V.Denot). get_or x.entries c.in-Ok.at e) is ∙ sym c.entry.ensures)))

pub returns-in-Err : goal.returns-in-Err
returns-in-Err g c =
    let cs = c.self.inside.chunks.items in
    let stands = subst (StandsIn g.K.Ord.cmp cs c.args.key.now c.args.place.chunk) c.in-Err.is (rw (← c.self.view_is) at c.requires) in
    rw (← c.self.view_is) (sym (got_none g.K.Ord.cmp g.met.K.Ord.total cs c.self.inside.count c.self.invariant c.args.key.now c.args.place.chunk _ stands))
