use Rattle.std.proofs.Common.{rules, ◌≡◌, ◌<◌, true, length, sym, ◌∙◌, arith}
use Rattle.std.specs.Prelude.{vec_capacity}
use Rattle.std.specs.FinMap.{is_sorted}
use Rattle.finite_map.proofs.Ranks.{ties_of, gap_of}
use Rattle.finite_map.proofs.Maps.{get_at, get_gap, remove_at, remove_gap, sorted-remove, len_is}
use Rattle.finite_map.proofs.sorted.SortedVec.remove_at.Goals as goal

pub invariant_of-self : goal.invariant_of-self
invariant_of-self g c = rw c.remove.ensures.items (sorted-remove g.K.Ord.cmp g.met.K.Ord.total c.self.inside.entries.items c.self.invariant c.args.key.now c.in-Ok.at c.remove.result (ties_of g.K.Ord.cmp g.met.K.Ord.total c.self.inside.entries.items c.self.invariant c.args.key.now c.in-Ok.at (rw (← c.self.view_is) at (sym c.requires ∙ c.in-Ok.is))))

pub returns-in-Ok-clause-effect : goal.returns-in-Ok-clause-effect
returns-in-Ok-clause-effect g c = λ same. rw (← c.self.view_is, c.remove.ensures.items) (remove_at g.K.Ord.cmp g.met.K.Ord.total c.self.inside.entries.items c.self.invariant same c.args.key.now c.in-Ok.at c.remove.result (ties_of g.K.Ord.cmp g.met.K.Ord.total c.self.inside.entries.items c.self.invariant c.args.key.now c.in-Ok.at (rw (← c.self.view_is) at (sym c.requires ∙ c.in-Ok.is))))

pub returns-in-Ok-clause-value : goal.returns-in-Ok-clause-value
returns-in-Ok-clause-value g c = rw (← c.self.view_is) (sym (get_at g.K.Ord.cmp g.met.K.Ord.total c.self.inside.entries.items c.self.invariant c.args.key.now c.in-Ok.at c.remove.result (ties_of g.K.Ord.cmp g.met.K.Ord.total c.self.inside.entries.items c.self.invariant c.args.key.now c.in-Ok.at (rw (← c.self.view_is) at (sym c.requires ∙ c.in-Ok.is))) (sym c.remove.ensures.value)))

pub returns-in-Ok-clause-room : goal.returns-in-Ok-clause-room
returns-in-Ok-clause-room g c = λ _.
    let es = c.self.inside.entries.items in
    let new = c.remove.new.self in
    let fewer : length new.items < vec_capacity new = search rules in
    let sorted : is_sorted g.K.Ord.cmp new.items ≡ true = rw c.remove.ensures.items (sorted-remove g.K.Ord.cmp g.met.K.Ord.total es c.self.invariant c.args.key.now c.in-Ok.at c.remove.result (ties_of g.K.Ord.cmp g.met.K.Ord.total c.self.inside.entries.items c.self.invariant c.args.key.now c.in-Ok.at (rw (← c.self.view_is) at (sym c.requires ∙ c.in-Ok.is)))) in
    rw (len_is g.K.Ord.cmp g.met.K.Ord.total new.items sorted) fewer

pub returns-in-Err-clause-effect : goal.returns-in-Err-clause-effect
returns-in-Err-clause-effect g c = λ same. rw (← c.self.view_is) (remove_gap g.K.Ord.cmp g.met.K.Ord.total c.self.inside.entries.items c.self.invariant same c.args.key.now _ (gap_of g.K.Ord.cmp g.met.K.Ord.total c.self.inside.entries.items c.self.invariant c.args.key.now _ (rw (← c.self.view_is) at (sym c.requires ∙ c.in-Err.is))).1)

pub returns-in-Err-clause-value : goal.returns-in-Err-clause-value
returns-in-Err-clause-value g c = rw (← c.self.view_is) (sym (get_gap g.K.Ord.cmp g.met.K.Ord.total c.self.inside.entries.items c.self.invariant c.args.key.now _ (gap_of g.K.Ord.cmp g.met.K.Ord.total c.self.inside.entries.items c.self.invariant c.args.key.now _ (rw (← c.self.view_is) at (sym c.requires ∙ c.in-Err.is))).1))

pub remove-requires : goal.remove-requires
remove-requires g c =
    let there = ties_of g.K.Ord.cmp g.met.K.Ord.total c.self.inside.entries.items c.self.invariant c.args.key.now c.in-Ok.at (rw (← c.self.view_is) at (sym c.requires ∙ c.in-Ok.is)) in
    omega (arith, there.0)
