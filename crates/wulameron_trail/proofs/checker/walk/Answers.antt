use Rattle.std.proofs.Common.{[], sym, subst, arith}
use Rattle.iceoryx2_world.specs.World.{World}
use Rattle.wulameron_trail.specs.Checking.{Reaches, begun}
use Rattle.wulameron_trail.specs.declared.checker.Step.TheVariants.{Followed, Ended, Failed}
use Rattle.wulameron_trail.proofs.Walking.{goes_on, ends_there, fails_there, step_as}
use Rattle.wulameron_trail.proofs.checker.walk.Goals as goal

pub loop-place-init : goal.loop-place-init
loop-place-init c = record {
  within = omega arith;
  counted = omega arith;
  reaches = subst (λ (w : World). Reaches c.args.header.now [] 0 w) (sym c.starting_at-world.ensures) begun;
}

pub returns-in-Ended : goal.returns-in-Ended
returns-in-Ended c =
    let held = c.loop-place.invariant in
    let step = step_as c.args.header.now c.args.entries.now c.loop-place.at c.loop-place.world c.next_step.new.world c.in_ok-count.field-0 (Ended c.in-Ended.ending)
    c.in_ok-count.ensures c.in-Ended.is in
    ends_there c.args.header.now c.args.entries.now c.loop-place.at c.loop-place.place c.loop-place.world c.in-Ended.ending c.ended_at.result
    held.within held.reaches step.0 step.1 c.ended_at.ensures

pub returns-in-Failed : goal.returns-in-Failed
returns-in-Failed c =
    let held = c.loop-place.invariant in
    let step = step_as c.args.header.now c.args.entries.now c.loop-place.at c.loop-place.world c.next_step.new.world c.in_ok-count.field-0 (Failed c.in-Failed.wrong)
    c.in_ok-count.ensures c.in-Failed.is in
    fails_there c.args.header.now c.args.entries.now c.loop-place.at c.loop-place.place c.loop-place.world c.in-Failed.wrong c.failed_at.result
    held.within held.reaches step c.failed_at.ensures

pub loop-place-preserved : goal.loop-place-preserved
loop-place-preserved c =
    let held = c.loop-place.invariant in
    let took = step_as c.args.header.now c.args.entries.now c.loop-place.at c.loop-place.world c.next_step.new.world c.in_ok-count.field-0
    (Followed c.in-Followed.count) c.in_ok-count.ensures c.in-Followed.is in
    let on = goes_on c.args.header.now c.args.entries.now c.loop-place.at c.loop-place.place c.in-Followed.count c.loop-place.world c.next_step.new.world
    took.0 held.within held.reaches took.1.0 took.2 took.3 in
    record {
      within = on.within;
      counted = omega (arith, held.counted, on.some);
      reaches = on.reaches;
    }
