use Rattle.std.proofs.Common.{sym}
use Rattle.iceoryx2_journal.specs.Replay.{begun}
use Rattle.iceoryx2_journal.proofs.GivingBack.{cleans_all, cleans_gone, cleans_keeps}
use Rattle.iceoryx2_journal.proofs.Lives.{cleans_lives}
use Rattle.iceoryx2_journal.proofs.journal.Journal.clean.Goals as goal

pub returns-clause-cleans : goal.returns-clause-cleans
returns-clause-cleans g c =
    cleans_all g.L.Log.contents c.args.node c.args.self.now c.clean_all.new.self c.clean_all.result (sym c.if-has_node.ensures) c.clean_all.ensures.all

pub returns-clause-kept : goal.returns-clause-kept
returns-clause-kept g c =
    (cleans_keeps g.L.Log.contents c.args.node c.args.self.now c.clean_all.new.self c.clean_all.result
    (cleans_all g.L.Log.contents c.args.node c.args.self.now c.clean_all.new.self c.clean_all.result (sym c.if-has_node.ensures) c.clean_all.ensures.all)).0

pub returns-clause-nodes : goal.returns-clause-nodes
returns-clause-nodes g c =
    (cleans_keeps g.L.Log.contents c.args.node c.args.self.now c.clean_all.new.self c.clean_all.result
    (cleans_all g.L.Log.contents c.args.node c.args.self.now c.clean_all.new.self c.clean_all.result (sym c.if-has_node.ensures) c.clean_all.ensures.all)).1

pub returns-clause-gone : goal.returns-clause-gone
returns-clause-gone g c =
    cleans_gone g.L.Log.contents c.args.node c.args.self.now c.clean_all.new.self c.clean_all.result
    (cleans_all g.L.Log.contents c.args.node c.args.self.now c.clean_all.new.self c.clean_all.result (sym c.if-has_node.ensures) c.clean_all.ensures.all)

pub returns-clause-lives : goal.returns-clause-lives
returns-clause-lives g c =
    cleans_lives g.L.Log.contents c.args.node c.args.self.now c.clean_all.new.self c.clean_all.result
    (cleans_all g.L.Log.contents c.args.node c.args.self.now c.clean_all.new.self c.clean_all.result (sym c.if-has_node.ensures) c.clean_all.ensures.all)

pub returns-then-has_node-clause-lives : goal.returns-then-has_node-clause-lives
returns-then-has_node-clause-lives g c = begun
