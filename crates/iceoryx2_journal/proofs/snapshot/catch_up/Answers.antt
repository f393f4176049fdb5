use Rattle.iceoryx2_journal.proofs.Reaching.{not_rejoined, not_restored, goes_there}
use Rattle.iceoryx2_journal.proofs.snapshot.catch_up.Goals as goal

pub returns-in_default : goal.returns-in_default
returns-in_default g c =
    not_rejoined c.args.nodes.now c.args.world.now (g.L.Log.contents c.args.log.now) (g.L.Log.contents c.rejoin.new.self) c.in_default.ensures.err

pub returns-in-Ok-restored : goal.returns-in-Ok-restored
returns-in-Ok-restored g c =
    goes_there c.args.nodes.now c.advance.result c.in-Ok.counter c.in-Ok-restored.target c.args.world.now c.advance.new.world (g.L.Log.contents c.args.log.now) (g.L.Log.contents c.rejoin.new.self) (g.L.Log.contents c.restored.new.log) c.in-Ok.ensures.ok c.in-Ok-restored.ensures.world c.advance.ensures.takes c.advance.ensures.same

pub returns-in-Err : goal.returns-in-Err
returns-in-Err g c =
    not_restored c.args.nodes.now c.in-Ok.counter c.in-Err.stop c.args.world.now (g.L.Log.contents c.args.log.now) (g.L.Log.contents c.rejoin.new.self) (g.L.Log.contents c.restored.new.log) c.in-Ok.ensures.ok c.restored.ensures.taken
