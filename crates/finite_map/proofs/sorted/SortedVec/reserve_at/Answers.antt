use Rattle.std.specs.Prelude.{Result, Ok, Err, OnErr}
use Rattle.finite_map.proofs.Ranks.{none_at, some_at}
use Rattle.finite_map.proofs.sorted.SortedVec.reserve_at.Goals as goal

always : {T E P : Type 0} (r : Result T E) → P → OnErr r P
always (Ok x) p = tt
always (Err e) p = p

pub returns-in-Ok-clause-room : goal.returns-in-Ok-clause-room
returns-in-Ok-clause-room g c = λ none. absurd (some_at _ c.args.key.now c.args.place c.in-Ok.field-0 c.requires c.in-Ok.is none)

pub returns-in-Err-clause-absent : goal.returns-in-Err-clause-absent
returns-in-Err-clause-absent g c = always c.reserve.result (none_at _ c.args.key.now c.args.place c.in-Err.field-0 c.requires c.in-Err.is)
