use Rattle.std.proofs.Common.{rules, arith, ◌≡◌, get_or, sym, ◌∙◌}
use Rattle.finite_map.proofs.Ranks.{ties_of, gap_of}
use Rattle.finite_map.proofs.Maps.{set_at, insert_at, room_at, sorted_by, map_by}
use Rattle.finite_map.proofs.sorted.SortedVec.insert_at.Goals as goal

pub invariant_of-self : goal.invariant_of-self
invariant_of-self g c =
    let es = c.self.inside.entries.items in
    let read : get_or es c.in-Ok.at c.index_mut.result.now ≡ c.index_mut.result.now = search rules in
    sorted_by g.K.Ord.cmp _ _ (set_at g.K.Ord.cmp g.met.K.Ord.total es c.self.invariant c.args.key c.args.value c.in-Ok.at c.index_mut.result.now (ties_of g.K.Ord.cmp g.met.K.Ord.total c.self.inside.entries.items c.self.invariant c.args.key c.in-Ok.at (rw (← c.self.view_is) at (sym c.requires.place ∙ c.in-Ok.is))) read)

pub returns-in-Ok-clause-effect : goal.returns-in-Ok-clause-effect
returns-in-Ok-clause-effect g c =
    let es = c.self.inside.entries.items in
    let read : get_or es c.in-Ok.at c.index_mut.result.now ≡ c.index_mut.result.now = search rules in
    rw (← c.self.view_is) (map_by g.K.Ord.cmp _ _ (set_at g.K.Ord.cmp g.met.K.Ord.total es c.self.invariant c.args.key c.args.value c.in-Ok.at c.index_mut.result.now (ties_of g.K.Ord.cmp g.met.K.Ord.total c.self.inside.entries.items c.self.invariant c.args.key c.in-Ok.at (rw (← c.self.view_is) at (sym c.requires.place ∙ c.in-Ok.is))) read))

pub invariant_of-self-in-Err : goal.invariant_of-self-in-Err
invariant_of-self-in-Err g c =
    let es = c.self.inside.entries.items in
    let found = gap_of g.K.Ord.cmp g.met.K.Ord.total c.self.inside.entries.items c.self.invariant c.args.key _ (rw (← c.self.view_is) at (sym c.requires.place ∙ c.in-Err.is)) in
    let gap = found.1 in
    let within = found.0 in
    sorted_by g.K.Ord.cmp _ _ (insert_at g.K.Ord.cmp g.met.K.Ord.total es c.self.invariant c.args.key c.args.value c.in-Err.at within gap ∙ sym c.insert_reserved.ensures.items)

pub returns-in-Err-clause-effect : goal.returns-in-Err-clause-effect
returns-in-Err-clause-effect g c =
    let es = c.self.inside.entries.items in
    let found = gap_of g.K.Ord.cmp g.met.K.Ord.total c.self.inside.entries.items c.self.invariant c.args.key _ (rw (← c.self.view_is) at (sym c.requires.place ∙ c.in-Err.is)) in
    let gap = found.1 in
    let within = found.0 in
    rw (← c.self.view_is) (map_by g.K.Ord.cmp _ _ (insert_at g.K.Ord.cmp g.met.K.Ord.total es c.self.invariant c.args.key c.args.value c.in-Err.at within gap ∙ sym c.insert_reserved.ensures.items))

pub insert_reserved-requires-clause-room : goal.insert_reserved-requires-clause-room
insert_reserved-requires-clause-room g c =
    let es = c.self.inside.entries.items in
    let gap = (gap_of g.K.Ord.cmp g.met.K.Ord.total c.self.inside.entries.items c.self.invariant c.args.key _ (rw (← c.self.view_is) at (sym c.requires.place ∙ c.in-Err.is))).1 in
    let room = room_at g.K.Ord.cmp g.met.K.Ord.total es c.self.invariant _ c.args.key c.in-Err.at gap (rw (← c.self.view_is) at c.requires.room) in
    omega (arith, room)

pub index_mut-requires : goal.index_mut-requires
index_mut-requires g c =
    let there = ties_of g.K.Ord.cmp g.met.K.Ord.total c.self.inside.entries.items c.self.invariant c.args.key c.in-Ok.at (rw (← c.self.view_is) at (sym c.requires.place ∙ c.in-Ok.is)) in
    omega (arith, there.0)

pub insert_reserved-requires-clause-in_range : goal.insert_reserved-requires-clause-in_range
insert_reserved-requires-clause-in_range g c =
    let found = gap_of g.K.Ord.cmp g.met.K.Ord.total c.self.inside.entries.items c.self.invariant c.args.key c.in-Err.at (rw (← c.self.view_is) at (sym c.requires.place ∙ c.in-Err.is)) in
    omega (arith, found.0)
