use Rattle.sorted_vec.proofs.Places.{not_there}
use Rattle.sorted_vec.proofs.sorted.SortedVec.remove.Goals as goal

pub returns-in-Err-clause-effect : goal.returns-in-Err-clause-effect
returns-in-Err-clause-effect g c = λ same.
    let place = c.place_of-place.result in
    not_there g.K.Ord.cmp g.met.K.Ord.total same c.args.self.now c.args.key.now place.piece place.at c.in-Err.field-0 c.place_of-place.ensures.place c.in-Err.is
