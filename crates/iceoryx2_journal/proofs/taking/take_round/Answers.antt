use Rattle.iceoryx2_journal.proofs.Reaching.{reach_here_all, caught_then}
use Rattle.iceoryx2_journal.proofs.taking.take_round.Goals as goal

pub returns-then-not-is_lost : goal.returns-then-not-is_lost
returns-then-not-is_lost g c =
    reach_here_all c.args.nodes.now c.take_here.result c.args.is_lost.now c.take_here.new.is_lost c.args.world.now c.take_here.new.world (g.L.Log.contents c.args.log.now) (g.L.Log.contents c.take_here.new.log) c.if-not-is_lost.true c.take_here.ensures.takes c.take_here.ensures.found

pub returns-in-Ok : goal.returns-in-Ok
returns-in-Ok g c =
    caught_then c.args.nodes.now c.take_here-in-Ok.result c.args.is_lost.now c.take_here-in-Ok.new.is_lost c.args.world.now c.catch_up.new.world c.take_here-in-Ok.new.world (g.L.Log.contents c.args.log.now) (g.L.Log.contents c.catch_up.new.log) (g.L.Log.contents c.take_here-in-Ok.new.log) c.if-not-is_lost.false c.in-Ok.ensures c.take_here-in-Ok.ensures.takes c.take_here-in-Ok.ensures.found
