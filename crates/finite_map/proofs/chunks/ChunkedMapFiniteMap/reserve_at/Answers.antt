use Rattle.std.proofs.Common.{refl, subst}
use Rattle.std.specs.Prelude.{Result, Ok, Err, OnErr}
use Rattle.finite_map.proofs.Ranks.{none_at, some_at}
use Rattle.finite_map.specs.Chunks.{StandsIn}
use Rattle.finite_map.proofs.chunks.ChunkedMapFiniteMap.reserve_at.Goals as goal

always : {T E P : Type 0} (r : Result T E) → P → OnErr r P
always (Ok x) p = tt
always (Err e) p = p

pub returns-in-Ok-clause-room : goal.returns-in-Ok-clause-room
returns-in-Ok-clause-room g c = λ none.
    let stands = subst (StandsIn g.K.Ord.cmp c.args.self.now c.args.key.now c.args.place.chunk) c.in-Ok.is c.requires in
    absurd (some_at _ c.args.key.now _ _ stands.1 refl none)

pub returns-in-Err-clause-absent : goal.returns-in-Err-clause-absent
returns-in-Err-clause-absent g c =
    let stands = subst (StandsIn g.K.Ord.cmp c.args.self.now c.args.key.now c.args.place.chunk) c.in-Err.is c.requires in
    always c.reserve_gap.result (none_at _ c.args.key.now _ _ stands.1 refl)
