use Rattle.std.proofs.Common.{List, length, ap, arith}
use Rattle.std.specs.Vec.Iter.{into_iter_items}
use Rattle.iceoryx2_session.proofs.TakenSetters.{begins, one_more}
use Rattle.iceoryx2_session.proofs.setters.with_settings.Goals as goal

pub loop-setting-init : goal.loop-setting-init
loop-setting-init g c =
    let taken = c.into_iter-setting-iterator.ensures.into_iter_gives in
    let long = ap (λ (l : List g.row.B-Setting.Denot). length l) taken.0 in
    let items = c.args.settings.ok in
    begins g.B.HasSetters.with_setting c.args.builder _ _ (omega (arith, taken.1, long, items.0))

pub loop-setting-preserved : goal.loop-setting-preserved
loop-setting-preserved g c =
    let at = c.loop-setting in
    let fewer = c.in-Some.ensures.steps.1 in
    rw c.with_setting-builder.ensures
    (one_more g.B.HasSetters.with_setting c.args.builder _ at.yielded _ (into_iter_items c.next.new.self) _ _ c.in-Some.setting at.builder at.invariant c.in-Some.ensures.steps.0 (omega (arith, fewer)))
