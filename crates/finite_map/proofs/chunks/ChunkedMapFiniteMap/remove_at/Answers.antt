use Rattle.std.proofs.Common.{arith, sym, subst}
use Rattle.finite_map.specs.Chunks.{StandsIn}
use Rattle.finite_map.proofs.Spots.{ties_in}
use Rattle.finite_map.proofs.Stored.{removed_kept, removed_map, not_removed, got_row, got_none}
use Rattle.finite_map.proofs.chunks.ChunkedMapFiniteMap.remove_at.Goals as goal

pub overflow_sub-self : goal.overflow_sub-self
overflow_sub-self g c =
    let cs = c.self.inside.chunks.items in
    let i = c.args.place.chunk in
    let at = c.in-Ok.at in
    let stands = subst (StandsIn g.K.Ord.cmp cs c.args.key.now i) c.in-Ok.is (rw (← c.self.view_is) at c.requires) in
    let ties = ties_in g.K.Ord.cmp g.met.K.Ord.total cs c.self.invariant.0 c.args.key.now i at stands in
    omega (arith, ties.0, c.self.invariant.2)

pub invariant_of-self : goal.invariant_of-self
invariant_of-self g c =
    let cs = c.self.inside.chunks.items in
    let i = c.args.place.chunk in
    let at = c.in-Ok.at in
    let stands = subst (StandsIn g.K.Ord.cmp cs c.args.key.now i) c.in-Ok.is (rw (← c.self.view_is) at c.requires) in
    removed_kept g.K.Ord.cmp g.met.K.Ord.total cs c.self.inside.count c.self.invariant c.args.key.now i at c.remove_entry.new.chunks.items c.remove_entry.ensures.entries stands c.remove_entry.ensures.shaped

pub returns-in-Ok-clause-effect : goal.returns-in-Ok-clause-effect
returns-in-Ok-clause-effect g c =
    let cs = c.self.inside.chunks.items in
    let i = c.args.place.chunk in
    let at = c.in-Ok.at in
    let stands = subst (StandsIn g.K.Ord.cmp cs c.args.key.now i) c.in-Ok.is (rw (← c.self.view_is) at c.requires) in
    λ same. rw (← c.self.view_is) (removed_map g.K.Ord.cmp g.met.K.Ord.total cs c.self.inside.count c.self.invariant c.args.key.now i at c.remove_entry.new.chunks.items c.remove_entry.ensures.entries stands same)

pub returns-in-Ok-clause-value : goal.returns-in-Ok-clause-value
returns-in-Ok-clause-value g c =
    let cs = c.self.inside.chunks.items in
    let i = c.args.place.chunk in
    let at = c.in-Ok.at in
    let stands = subst (StandsIn g.K.Ord.cmp cs c.args.key.now i) c.in-Ok.is (rw (← c.self.view_is) at c.requires) in
    rw (← c.self.view_is) (sym (got_row g.K.Ord.cmp g.met.K.Ord.total cs c.self.inside.count c.self.invariant c.args.key.now i at c.remove_entry.result stands c.remove_entry.ensures.value))

pub returns-in-Err-clause-effect : goal.returns-in-Err-clause-effect
returns-in-Err-clause-effect g c =
    let cs = c.self.inside.chunks.items in
    let stands = subst (StandsIn g.K.Ord.cmp cs c.args.key.now c.args.place.chunk) c.in-Err.is (rw (← c.self.view_is) at c.requires) in
    λ same. rw (← c.self.view_is) (not_removed g.K.Ord.cmp g.met.K.Ord.total cs c.self.inside.count c.self.invariant c.args.key.now c.args.place.chunk _ stands same)

pub returns-in-Err-clause-value : goal.returns-in-Err-clause-value
returns-in-Err-clause-value g c =
    let cs = c.self.inside.chunks.items in
    let stands = subst (StandsIn g.K.Ord.cmp cs c.args.key.now c.args.place.chunk) c.in-Err.is (rw (← c.self.view_is) at c.requires) in
    rw (← c.self.view_is) (sym (got_none g.K.Ord.cmp g.met.K.Ord.total cs c.self.inside.count c.self.invariant c.args.key.now c.args.place.chunk _ stands))
