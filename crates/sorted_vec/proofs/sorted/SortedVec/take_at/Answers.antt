use Rattle.std.proofs.Common.{arith}
use Rattle.finite_map.proofs.Spots.{ties_in}
use Rattle.sorted_vec.proofs.Kept.{removed_kept, removed_map, got_value}
use Rattle.sorted_vec.proofs.sorted.SortedVec.take_at.Goals as goal

pub overflow_sub-self : goal.overflow_sub-self
overflow_sub-self g c =
    let stands = (rw (← c.self.view_is) at c.requires).0 in
    let ties = ties_in g.K.Ord.cmp g.met.K.Ord.total c.self.inside.pieces c.self.invariant.sorted c.args.key.now c.args.piece c.args.at stands in
    omega (arith, ties.0, c.self.invariant.counted)

pub invariant_of-self : goal.invariant_of-self
invariant_of-self g c =
    let stands = (rw (← c.self.view_is) at c.requires).0 in
    let told = c.take_entry.ensures in
    removed_kept g.K.Ord.cmp g.met.K.Ord.total c.self.inside.pieces c.self.inside.most c.self.inside.count c.self.invariant c.args.key.now c.args.piece c.args.at c.take_entry.new.pieces told.entries stands (told.shaped c.self.inside.most c.self.invariant.shaped) told.some

pub returns-clause-effect : goal.returns-clause-effect
returns-clause-effect g c = λ same.
    let stands = (rw (← c.self.view_is) at c.requires).0 in
    rw (← c.self.view_is) (removed_map g.K.Ord.cmp g.met.K.Ord.total c.self.inside.pieces c.self.inside.most c.self.inside.count c.self.invariant c.args.key.now c.args.piece c.args.at c.take_entry.new.pieces c.take_entry.ensures.entries stands same)

pub returns-clause-value : goal.returns-clause-value
returns-clause-value g c =
    let stands = (rw (← c.self.view_is) at c.requires).0 in
    rw (← c.self.view_is) (got_value g.K.Ord.cmp g.met.K.Ord.total c.self.inside.pieces c.self.inside.most c.self.inside.count c.self.invariant c.args.key.now c.args.piece c.args.at c.take_entry.result stands c.take_entry.ensures.value)
