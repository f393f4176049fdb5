use Rattle.std.proofs.Common.{refl}
use Rattle.std.proofs.lemmas.List.{take_more}
use Rattle.wulameron_serve.proofs.Cleanings.{rehearses_none, rehearses_one_more}
use Rattle.wulameron_serve.proofs.cleaning.rehearse_all.Goals as goal

pub loop-node-init : goal.loop-node-init
loop-node-init c = rehearses_none refl c.nothing-given.ensures

pub loop-node-preserved : goal.loop-node-preserved
loop-node-preserved c =
    rehearses_one_more _ c.in-Some.cleaned c.loop-node.invariant c.in-Some.ensures (take_more c.args.nodes.now c.loop-node.node-index 0 c.loop-node-test.true) c.with-given.ensures
