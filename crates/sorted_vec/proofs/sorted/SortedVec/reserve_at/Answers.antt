use Rattle.std.specs.Prelude.{Result, Ok, Err, OnErr}
use Rattle.sorted_vec.proofs.Places.{none_at}
use Rattle.sorted_vec.proofs.sorted.SortedVec.reserve_at.Goals as goal

always : {T E P : Type 0} (r : Result T E) → P → OnErr r P
always (Ok x) p = tt
always (Err e) p = p

pub returns-in-Err-clause-absent : goal.returns-in-Err-clause-absent
returns-in-Err-clause-absent g c =
    let place = c.place_by-place.result in
    always c.reserve_gap.result (none_at g.K.Ord.cmp c.args.self.now c.args.key.now place.piece place.at c.in-Err.at c.place_by-place.ensures c.in-Err.is)
