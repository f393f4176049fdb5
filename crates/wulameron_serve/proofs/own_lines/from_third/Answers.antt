use Rattle.wulameron_serve.proofs.OwnTerms.{from_third}
use Rattle.wulameron_serve.proofs.own_lines.from_third.Goals as goal

pub returns : goal.returns
returns c =
    from_third c.args.line.now c.behind_spaces.result.now c.behind_word.result.now c.behind_spaces-second.result.now c.behind_word-2.result.now c.behind_spaces-2.result.now
    c.behind_spaces.ensures c.behind_word.ensures c.behind_spaces-second.ensures c.behind_word-2.ensures c.behind_spaces-2.ensures
