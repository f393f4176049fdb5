use Rattle.std.proofs.Common.{refl}
use Rattle.std.proofs.lemmas.List.{take_more}
use Rattle.wulameron_place.proofs.Rehearsals.{none_given, rehearses_one_more}
use Rattle.wulameron_place.proofs.texts.rehearse_nodes.Goals as goal

pub loop-node-init : goal.loop-node-init
loop-node-init c = none_given refl c.new-text.ensures.bytes

pub loop-node-preserved : goal.loop-node-preserved
loop-node-preserved c =
    rehearses_one_more c.loop-node.invariant c.in-Some.ensures (take_more c.args.nodes.now c.loop-node.node-index 0 c.loop-node-test.true) c.in-Ok.ensures
