use Rattle.std.proofs.Common.{Ok, Err, refl}
use Rattle.iceoryx2_journal.specs.Taking.{unread}
use Rattle.iceoryx2_journal.proofs.Reaching.{reach_not, reach_both, reach_moved, reach_then, reach_some}
use Rattle.iceoryx2_journal.proofs.taking.take_over.Goals as goal

pub loop-init : goal.loop-init
loop-init g c = reach_not c.args.nodes.now c.args.is_lost.now c.args.world.now _ (g.L.Log.contents c.args.log.now) refl

pub loop-preserved : goal.loop-preserved
loop-preserved g c =
    reach_both c.args.is_lost.now c.loop.is_lost c.take_round.new.is_lost _ _ _ c.loop.invariant
    (reach_moved c.in-Err-Moved.field-0 c.in-Err-Moved.field-0-is c.in-Err-Moved.ensures)

pub returns-in-Ok : goal.returns-in-Ok
returns-in-Ok g c =
    reach_then c.args.nodes.now (Ok tt) c.args.is_lost.now c.loop.is_lost c.take_round.new.is_lost c.args.world.now c.loop.world c.take_round.new.world _ _ _ c.loop.invariant c.in-Ok.ensures

pub returns-in-Err : goal.returns-in-Err
returns-in-Err g c =
    reach_then c.args.nodes.now (Err c.in-Err.stop) c.args.is_lost.now c.loop.is_lost c.take_round.new.is_lost c.args.world.now c.loop.world c.take_round.new.world _ _ _ c.loop.invariant c.in-Err.ensures

pub returns : goal.returns
returns g c = reach_some c.loop.invariant (unread refl refl)
