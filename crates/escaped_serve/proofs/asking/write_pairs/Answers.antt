use Rattle.escaped_serve.proofs.AskingTexts.{all_pairs, no_pairs, one_more_pair}
use Rattle.escaped_serve.proofs.asking.write_pairs.Goals as goal

pub loop-pair-init : goal.loop-pair-init
loop-pair-init c = no_pairs _

pub loop-pair-preserved : goal.loop-pair-preserved
loop-pair-preserved c =
    one_more_pair c.args.pairs.now c.loop-pair.pair-index c.pair-item.result _ _ _ c.loop-pair-test.true c.pair-item.is
    c.loop-pair.invariant c.in_ok-write_pair.ensures

pub returns : goal.returns
returns c = all_pairs c.args.pairs.now c.loop-pair.pair-index _ _ c.loop-pair-test.false c.loop-pair.invariant
