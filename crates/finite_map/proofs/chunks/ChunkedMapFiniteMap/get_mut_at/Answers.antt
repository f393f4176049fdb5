use Rattle.std.proofs.Common.{rules, ◌≡◌, get_or, refl, sym, subst}
use Rattle.finite_map.specs.Chunks.{StandsIn}
use Rattle.finite_map.proofs.Stored.{written_kept, written_map, got_value, got_none}
use Rattle.finite_map.proofs.chunks.ChunkedMapFiniteMap.get_mut_at.Goals as goal

pub invariant_of-self-lent : goal.invariant_of-self-lent
invariant_of-self-lent g c w =
    let cs = c.self.inside.chunks.items in
    let i = c.args.place.chunk in
    let b = c.index_mut.result.now in
    let stands = subst (StandsIn g.K.Ord.cmp cs c.args.key.now i) c.in-Ok.is (rw (← c.self.view_is) at c.requires) in
    let read : get_or cs i b ≡ b = search rules in
    written_kept g.K.Ord.cmp g.met.K.Ord.total cs c.self.inside.count c.self.invariant c.args.key.now i w c.in-Ok.at b _ read stands refl

pub returns-in-Ok : goal.returns-in-Ok
returns-in-Ok g c =
    let cs = c.self.inside.chunks.items in
    let i = c.args.place.chunk in
    let b = c.index_mut.result.now in
    let stands = subst (StandsIn g.K.Ord.cmp cs c.args.key.now i) c.in-Ok.is (rw (← c.self.view_is) at c.requires) in
    let read : get_or cs i b ≡ b = search rules in
    let value = got_value g.K.Ord.cmp g.met.K.Ord.total cs c.self.inside.count c.self.invariant c.args.key.now i c.in-Ok.at b c.value_mut.result.now stands read c.value_mut.ensures.value in (
      (refl, λ w. rw (← c.self.view_is) (written_map g.K.Ord.cmp g.met.K.Ord.total cs c.self.inside.count c.self.invariant c.args.key.now i w c.in-Ok.at b _ read stands refl), refl),
      record { writes_back = tt; value = rw (← c.self.view_is) (sym value) },
    )

pub returns-in-Err : goal.returns-in-Err
returns-in-Err g c =
    let cs = c.self.inside.chunks.items in
    let stands = subst (StandsIn g.K.Ord.cmp cs c.args.key.now c.args.place.chunk) c.in-Err.is (rw (← c.self.view_is) at c.requires) in
    let none = got_none g.K.Ord.cmp g.met.K.Ord.total cs c.self.inside.count c.self.invariant c.args.key.now c.args.place.chunk _ stands in
    ((refl, λ _. tt, rw (← c.self.view_is) refl), record { writes_back = tt; value = rw (← c.self.view_is) (sym none) })
