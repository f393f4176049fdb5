use Rattle.std.proofs.Common.{refl}
use Rattle.iceoryx2_journal.specs.Taking.{unread}
use Rattle.iceoryx2_journal.proofs.Takes.{takes_not, takes_one_more, nothing_more, takes_some}
use Rattle.iceoryx2_journal.proofs.taking.take_all.Goals as goal

pub loop-init : goal.loop-init
loop-init g c = takes_not c.args.nodes.now c.args.world.now _ (g.L.Log.contents c.args.log.now) refl

pub loop-preserved : goal.loop-preserved
loop-preserved g c = takes_one_more c.loop.invariant c.in-Taken.ensures.takes

pub returns-in-Nothing : goal.returns-in-Nothing
returns-in-Nothing g c = let n = c.in-Nothing.ensures.takes in nothing_more c.loop.invariant n.0 n.1 n.2

pub returns-in-Stopped : goal.returns-in-Stopped
returns-in-Stopped g c = let n = c.in-Stopped.ensures.takes in takes_some c.loop.invariant n.0 n.1

pub returns : goal.returns
returns g c = takes_some c.loop.invariant (unread refl refl) refl
