use Rattle.std.proofs.Common.{◌≢◌}
use Rattle.wulameron_serve.proofs.OwnTerms.{all_pushed}
use Rattle.wulameron_serve.proofs.own_lines.behind_word.Goals as goal

pub loop-first-preserved : goal.loop-first-preserved
loop-first-preserved c =
    let front = c.loop-first.invariant in
    all_pushed (λ byte. byte ≢ 32) c.args.text.now front.0 c.loop-first.rest.now c.in-Some.first.now c.in-Some.behind.now front.1 front.2 c.in-Some.ensures.cases.0 c.if-first-eq32.false
