use Rattle.std.proofs.Common.{refl}
use Rattle.std.proofs.lemmas.List.{take_more}
use Rattle.iceoryx2_session.specs.SessionStates.{own_state}
use Rattle.wulameron_serve.proofs.Cleanings.{cleans_none, cleans_one_more}
use Rattle.wulameron_serve.proofs.NodeAnswers.{shown_both, shown_not}
use Rattle.wulameron_serve.proofs.cleaning.clean_nodes.Goals as goal

pub loop-node-init : goal.loop-node-init
loop-node-init g c = (
  cleans_none g.S.WorldStorage.shows g.S.WorldStorage.world (own_state c.args.session.now) refl c.of_none-outcome.ensures,
  shown_not g.S.WorldStorage.shows g.met.S.WorldStorage.shows_same (own_state c.args.session.now),
)

pub loop-node-preserved : goal.loop-node-preserved
loop-node-preserved g c = (
  cleans_one_more g.S.WorldStorage.shows g.S.WorldStorage.world _ c.clean_node-found.result c.loop-node.invariant.0 c.clean_node-found.ensures
      (take_more c.args.nodes.now c.loop-node.node-index 0 c.loop-node-test.true) c.with-outcome.ensures,
  shown_both g.S.WorldStorage.shows g.met.S.WorldStorage.shows_both (own_state c.args.session.now) (own_state c.loop-node.session)
      (own_state c.clean_node-found.new.session) c.loop-node.invariant.1 c.clean_node-found.ensures.0,
)
