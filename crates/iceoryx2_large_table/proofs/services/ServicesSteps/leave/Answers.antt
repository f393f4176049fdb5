use Rattle.std.proofs.Common.{arith, inr, refl, sym, ◌∙◌}
use Rattle.iceoryx2_table.proofs.Changes.{found_again, leaves_one, leaves, leaves_last}
use Rattle.iceoryx2_large_table.proofs.Found.{at_some}
use Rattle.iceoryx2_large_table.proofs.services.ServicesSteps.leave.Goals as goal

pub returns-then-count-gt1 : goal.returns-then-count-gt1
returns-then-count-gt1 g c = (leaves_one c.args.participant c.args.hash.now refl refl (sym c.position_of-position.ensures.phase ∙ c.in-Joined.is) c.if-count-gt1.true c.set_phase.ensures, c.in-Ok.ensures.written)

pub returns-in_default-write_down-2 : goal.returns-in_default-write_down-2
returns-in_default-write_down-2 g c = inr (
  found_again c.args.hash.now refl c.in-Some.segment.now (sym c.in-Some.ensures.value)
      (at_some c.get_mut_at.result c.in-Some.segment c.in-Some.is (c.get_mut_at.follows.holds c.in-Some.segment.now)),
  c.in_default-write_down-2.ensures.refused,
)

pub returns-then-dismiss : goal.returns-then-dismiss
returns-then-dismiss g c = (
  leaves c.args.participant c.args.hash.now refl refl (sym c.position_of-position.ensures.phase ∙ c.in-Joined.is) (omega (arith, c.if-count-gt1.false, c.if-count-eq0.false))
      c.in-Some.segment.now c.dismiss.new.self (sym c.in-Some.ensures.value)
      (at_some c.get_mut_at.result c.in-Some.segment c.in-Some.is (c.get_mut_at.follows.holds c.dismiss.new.self)) c.dismiss.ensures
      c.if-dismiss.true c.set_phase-then-dismiss.ensures,
  c.in-Ok-write_down.ensures.written,
)

pub returns : goal.returns
returns g c = (
  leaves_last c.args.participant c.args.hash.now refl refl (sym c.position_of-position.ensures.phase ∙ c.in-Joined.is) (omega (arith, c.if-count-gt1.false, c.if-count-eq0.false))
      c.in-Some.segment.now c.dismiss.new.self (sym c.in-Some.ensures.value)
      (at_some c.get_mut_at.result c.in-Some.segment c.in-Some.is (c.get_mut_at.follows.holds c.dismiss.new.self)) c.dismiss.ensures
      c.if-dismiss.false c.set_phase-2.ensures,
  c.in-Ok-write_down.ensures.written,
)
