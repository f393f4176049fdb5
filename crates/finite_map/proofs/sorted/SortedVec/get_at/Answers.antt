use Rattle.std.proofs.Common.{rules, ◌≡◌, get_or, sym, ◌∙◌, arith}
use Rattle.finite_map.proofs.Ranks.{ties_of, gap_of}
use Rattle.finite_map.proofs.Maps.{get_at, get_gap}
use Rattle.finite_map.proofs.sorted.SortedVec.get_at.Goals as goal

pub returns-in-Ok : goal.returns-in-Ok
returns-in-Ok g c =
    let es = c.self.inside.entries.items in
    let read : get_or es c.in-Ok.at c.index.result.now ≡ c.index.result.now = search rules in
    rw (← c.self.view_is) (sym (get_at g.K.Ord.cmp g.met.K.Ord.total es c.self.invariant c.args.key.now c.in-Ok.at c.index.result.now (ties_of g.K.Ord.cmp g.met.K.Ord.total c.self.inside.entries.items c.self.invariant c.args.key.now c.in-Ok.at (rw (← c.self.view_is) at (sym c.requires ∙ c.in-Ok.is))) read))

pub returns-in-Err : goal.returns-in-Err
returns-in-Err g c =
    let es = c.self.inside.entries.items in
    rw (← c.self.view_is) (sym (get_gap g.K.Ord.cmp g.met.K.Ord.total es c.self.invariant c.args.key.now _ (gap_of g.K.Ord.cmp g.met.K.Ord.total c.self.inside.entries.items c.self.invariant c.args.key.now _ (rw (← c.self.view_is) at (sym c.requires ∙ c.in-Err.is))).1))

pub index-requires : goal.index-requires
index-requires g c =
    let there = ties_of g.K.Ord.cmp g.met.K.Ord.total c.self.inside.entries.items c.self.invariant c.args.key.now c.in-Ok.at (rw (← c.self.view_is) at (sym c.requires ∙ c.in-Ok.is)) in
    omega (arith, there.0)
