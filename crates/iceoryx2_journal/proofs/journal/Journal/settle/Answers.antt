use Rattle.iceoryx2_journal.specs.Taking.{is_own}
use Rattle.iceoryx2_journal.proofs.Settled.{settled_agrees, settled_in_world, settled_kept, settled_lives, settled_nodes, settled_stands}
use Rattle.iceoryx2_journal.proofs.journal.Journal.settle.Goals as goal

pub returns-clause-in_world : goal.returns-clause-in_world
returns-clause-in_world g c =
    settled_in_world g.L.Log.contents c.args.node c.args.spared.now c.args.self.now c.settle_all.new.self c.settle_all.result c.settle_all.ensures.settles

pub returns-clause-stands : goal.returns-clause-stands
returns-clause-stands g c =
    settled_stands c.args.node c.args.spared.now (is_own c.args.self.now.nodes) c.args.self.now.world c.settle_all.new.self.world c.settle_all.result
    (settled_in_world g.L.Log.contents c.args.node c.args.spared.now c.args.self.now c.settle_all.new.self c.settle_all.result c.settle_all.ensures.settles)

pub returns-clause-kept : goal.returns-clause-kept
returns-clause-kept g c =
    settled_kept c.args.node c.args.spared.now (is_own c.args.self.now.nodes) c.args.self.now.world c.settle_all.new.self.world c.settle_all.result
    (settled_in_world g.L.Log.contents c.args.node c.args.spared.now c.args.self.now c.settle_all.new.self c.settle_all.result c.settle_all.ensures.settles)

pub returns-clause-agrees : goal.returns-clause-agrees
returns-clause-agrees g c =
    settled_agrees c.args.node c.args.spared.now (is_own c.args.self.now.nodes) c.args.self.now.world c.settle_all.new.self.world c.settle_all.result
    (settled_in_world g.L.Log.contents c.args.node c.args.spared.now c.args.self.now c.settle_all.new.self c.settle_all.result c.settle_all.ensures.settles)

pub returns-clause-nodes : goal.returns-clause-nodes
returns-clause-nodes g c =
    settled_nodes g.L.Log.contents c.args.node c.args.spared.now c.args.self.now c.settle_all.new.self c.settle_all.result c.settle_all.ensures.settles

pub returns-clause-lives : goal.returns-clause-lives
returns-clause-lives g c =
    settled_lives g.L.Log.contents c.args.node c.args.spared.now c.args.self.now c.settle_all.new.self c.settle_all.result c.settle_all.ensures.settles
