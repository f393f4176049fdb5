use Rattle.std.proofs.Common.{None, refl}
use Rattle.iceoryx2_journal.specs.Taking.{unread}
use Rattle.iceoryx2_journal.proofs.Takes.{takes_not, takes_one_more, nothing_more, takes_some}
use Rattle.iceoryx2_journal.proofs.snapshot.advance_all.Goals as goal

pub returns-in_default : goal.returns-in_default
returns-in_default c = takes_some {d = None} (takes_not c.args.nodes.now c.args.world.now None None refl) (unread refl refl) refl

pub loop-init : goal.loop-init
loop-init c = takes_not c.args.nodes.now c.args.world.now None None refl

pub loop-preserved : goal.loop-preserved
loop-preserved c = takes_one_more {d = None} c.loop.invariant c.in-Taken.ensures

pub returns-in-Nothing : goal.returns-in-Nothing
returns-in-Nothing c = let n = c.in-Nothing.ensures in nothing_more {d = None} c.loop.invariant n.0 n.1 n.2

pub returns-in-Stopped : goal.returns-in-Stopped
returns-in-Stopped c = let n = c.in-Stopped.ensures in takes_some {d = None} c.loop.invariant n.0 n.1

pub returns : goal.returns
returns c = takes_some {d = None} c.loop.invariant (unread refl refl) refl
