use Rattle.std.proofs.Common.{sym}
use Rattle.sorted_vec.proofs.Places.{none_at, not_there}
use Rattle.sorted_vec.proofs.sorted.SortedVec.remove_at.Goals as goal

pub returns-in-Err-clause-effect : goal.returns-in-Err-clause-effect
returns-in-Err-clause-effect g c = λ same.
    let place = c.place_by-place.result in
    not_there g.K.Ord.cmp g.met.K.Ord.total same c.args.self.now c.args.key.now place.piece place.at c.in-Err.field-0 c.place_by-place.ensures c.in-Err.is

pub returns-in-Err-clause-value : goal.returns-in-Err-clause-value
returns-in-Err-clause-value g c =
    let place = c.place_by-place.result in
    sym (none_at g.K.Ord.cmp c.args.self.now c.args.key.now place.piece place.at c.in-Err.field-0 c.place_by-place.ensures c.in-Err.is)
