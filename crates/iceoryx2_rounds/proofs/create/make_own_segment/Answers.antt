use Rattle.std.proofs.Common.{◌≡◌, add-one, arith, sym}
use Rattle.iceoryx2_access.proofs.Run.{joins, one, both}
use Rattle.iceoryx2_access.specs.Run.{next, done}
use Rattle.iceoryx2_rounds.specs.Segments.{made, not_made, not_removed, still_there}
use Rattle.iceoryx2_rounds.specs.declared.create.TheConstants.{CLEARING_LIMIT}
use Rattle.iceoryx2_rounds.proofs.MakeSteps.{only_there}
use Rattle.iceoryx2_rounds.proofs.create.make_own_segment.Goals as goal

pub loop-removed-init : goal.loop-removed-init
loop-removed-init g c = done

pub loop-removed-preserved : goal.loop-removed-preserved
loop-removed-preserved g c =
    let there = only_there c.in-Err.error (sym c.in-None.ensures) in
    rw add-one (both c.loop-removed.invariant (next (rw there at c.in-Err.ensures) (one c.in-Ok-remove_segment.ensures)))

pub returns-in-Ok : goal.returns-in-Ok
returns-in-Ok g c = joins (made c.loop-removed._removed (omega arith)) (both c.loop-removed.invariant (one c.in-Ok.ensures))

pub returns-in-Ok-make_segment : goal.returns-in-Ok-make_segment
returns-in-Ok-make_segment g c = joins (made c.loop-removed._removed (omega arith)) (both c.loop-removed.invariant (one c.in-Ok-make_segment.ensures))

pub returns-in-Some : goal.returns-in-Some
returns-in-Some g c = joins (not_made c.loop-removed._removed c.in-Err.error (omega arith) (sym c.in-Some.ensures)) (both c.loop-removed.invariant (one c.in-Err.ensures))

pub returns-in-Err-remove_segment : goal.returns-in-Err-remove_segment
returns-in-Err-remove_segment g c =
    let there = only_there c.in-Err.error (sym c.in-None.ensures) in
    rw c.remove_refusal.ensures (joins (not_removed c.loop-removed._removed c.in-Err-remove_segment.error (omega arith)) (both c.loop-removed.invariant (next (rw there at c.in-Err.ensures) (one c.in-Err-remove_segment.ensures))))

pub returns-in-None-make_refusal : goal.returns-in-None-make_refusal
returns-in-None-make_refusal g c =
    let all : c.loop-removed._removed ≡ CLEARING_LIMIT = omega arith in
    let there = only_there c.in-Err-make_segment.error (sym c.in-None-make_refusal.ensures) in
    joins still_there (both (rw all at c.loop-removed.invariant) (one (rw there at c.in-Err-make_segment.ensures)))

pub returns-in-Some-make_refusal : goal.returns-in-Some-make_refusal
returns-in-Some-make_refusal g c = joins (not_made c.loop-removed._removed c.in-Err-make_segment.error (omega arith) (sym c.in-Some-make_refusal.ensures)) (both c.loop-removed.invariant (one c.in-Err-make_segment.ensures))
