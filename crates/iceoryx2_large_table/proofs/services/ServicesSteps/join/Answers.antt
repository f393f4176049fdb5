use Rattle.std.proofs.Common.{refl, sym, ◌∙◌}
use Rattle.iceoryx2_table.proofs.Changes.{joins_again, join_recorded, join_unrecorded, join_starves}
use Rattle.iceoryx2_large_table.proofs.Found.{at_some}
use Rattle.iceoryx2_large_table.proofs.services.ServicesSteps.join.Goals as goal

pub returns-in-Ok : goal.returns-in-Ok
returns-in-Ok g c = (joins_again c.args.participant c.args.hash.now refl refl (sym c.phase_at.ensures ∙ c.in-Joined.is) c.if-count-ge18446744073709551615.false c.set_phase.ensures, c.in-Ok.ensures.written)

pub returns-then-admitted : goal.returns-then-admitted
returns-then-admitted g c =
    join_recorded c.args.participant c.args.hash.now refl refl (sym c.phase_at.ensures ∙ c.in-Read.is) c.in-Some.segment.now c.admit.new.self (sym c.in-Some.ensures.value)
    (at_some c.get_mut_at.result c.in-Some.segment c.in-Some.is (c.get_mut_at.follows.holds c.admit.new.self))
    g.R.Recorder.written g.R.Recorder.refused c.args.recorder.now c.admit.new.recorder c.if-admitted.true c.in-Ok-admit.ensures c.set_phase-then-admitted.ensures

pub returns-else-admitted : goal.returns-else-admitted
returns-else-admitted g c =
    join_unrecorded c.args.participant c.args.hash.now refl refl (sym c.phase_at.ensures ∙ c.in-Read.is) c.in-Some.segment.now c.admit.new.self (sym c.in-Some.ensures.value)
    (at_some c.get_mut_at.result c.in-Some.segment c.in-Some.is (c.get_mut_at.follows.holds c.admit.new.self))
    g.R.Recorder.written g.R.Recorder.refused c.args.recorder.now c.admit.new.recorder c.if-admitted.false c.in-Ok-admit.ensures

pub returns-in-Err : goal.returns-in-Err
returns-in-Err g c = (
  join_starves c.args.participant c.args.hash.now refl refl (sym c.phase_at.ensures ∙ c.in-Read.is) c.in-Some.segment.now c.admit.new.self (sym c.in-Some.ensures.value)
      (at_some c.get_mut_at.result c.in-Some.segment c.in-Some.is (c.get_mut_at.follows.holds c.admit.new.self)) _ c.in-Err.ensures.0,
  c.in-Err.ensures.1,
)
