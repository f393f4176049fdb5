use Rattle.iceoryx2_session.specs.SessionStates.{own_state}
use Rattle.wulameron_serve.proofs.NodeAnswers.{shown_both, shown_not}
use Rattle.wulameron_serve.proofs.dead.clean_dead.Goals as goal

pub loop-node-init : goal.loop-node-init
loop-node-init g c = shown_not g.S.WorldStorage.shows g.met.S.WorldStorage.shows_same (own_state c.args.session.now)

pub loop-node-preserved-then-clean_one : goal.loop-node-preserved-then-clean_one
loop-node-preserved-then-clean_one g c =
    shown_both g.S.WorldStorage.shows g.met.S.WorldStorage.shows_both (own_state c.args.session.now) (own_state c.loop-node.session)
    (own_state c.clean_one.new.session) c.loop-node.invariant c.clean_one.ensures

pub loop-node-preserved : goal.loop-node-preserved
loop-node-preserved g c =
    shown_both g.S.WorldStorage.shows g.met.S.WorldStorage.shows_both (own_state c.args.session.now) (own_state c.loop-node.session)
    (own_state c.clean_one.new.session) c.loop-node.invariant c.clean_one.ensures
