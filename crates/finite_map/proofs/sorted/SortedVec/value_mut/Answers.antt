use Rattle.std.proofs.Common.{rules, ◌≡◌, get_or, refl, arith}
use Rattle.finite_map.proofs.Ranks.{ties_of}
use Rattle.finite_map.proofs.Maps.{get_at, set_at, sorted_by, with_value_is}
use Rattle.finite_map.proofs.sorted.SortedVec.value_mut.Goals as goal

pub invariant_of-self-lent : goal.invariant_of-self-lent
invariant_of-self-lent g c w =
    let es = c.self.inside.entries.items in
    let read : get_or es c.args.at c.index_mut.result.now ≡ c.index_mut.result.now = search rules in
    sorted_by g.K.Ord.cmp _ _ (set_at g.K.Ord.cmp g.met.K.Ord.total es c.self.invariant c.args.key.now w c.args.at c.index_mut.result.now (ties_of g.K.Ord.cmp g.met.K.Ord.total es c.self.invariant c.args.key.now c.args.at (rw (← c.self.view_is) at c.requires)) read)

pub returns : goal.returns
returns g c =
    let es = c.self.inside.entries.items in
    let there = ties_of g.K.Ord.cmp g.met.K.Ord.total es c.self.invariant c.args.key.now c.args.at (rw (← c.self.view_is) at c.requires) in
    let read : get_or es c.args.at c.index_mut.result.now ≡ c.index_mut.result.now = search rules in (
      (refl, λ w. rw (← c.self.view_is) (with_value_is g.K.Ord.cmp g.met.K.Ord.total es c.self.invariant c.args.key.now w _ _ (set_at g.K.Ord.cmp g.met.K.Ord.total es c.self.invariant c.args.key.now w c.args.at c.index_mut.result.now there read))),
      record { writes_back = tt; value = rw (← c.self.view_is) (get_at g.K.Ord.cmp g.met.K.Ord.total es c.self.invariant c.args.key.now c.args.at c.index_mut.result.now there read) },
    )

pub index_mut-requires : goal.index_mut-requires
index_mut-requires g c =
    let there = ties_of g.K.Ord.cmp g.met.K.Ord.total c.self.inside.entries.items c.self.invariant c.args.key.now c.args.at (rw (← c.self.view_is) at c.requires) in
    omega (arith, there.0)
