use Rattle.std.proofs.Common.{subst, ◌∙◌}
use Rattle.wulameron_serve.specs.Refusals.{offered_lines, refusal_text}
use Rattle.wulameron_serve.proofs.LineEnds.{offered_end}
use Rattle.wulameron_serve.proofs.Told.{front_of, written}
use Rattle.wulameron_place.specs.Troubles.{WritesLine, no_memory}
use Rattle.wulameron_serve.proofs.refused.tell_refusal.Goals as goal

pub returns-in-Ok : goal.returns-in-Ok
returns-in-Ok g c =
    let offers = offered_lines c.args.refusal c.args.offer.now in
    let front = front_of (refusal_text c.args.refusal) offers (offered_end c.args.refusal c.args.offer.now) in
    subst (λ line. WritesLine line c.tell_lines.result (g.E.Write.contents c.args.reports.now.errors) (g.E.Write.contents c.tell_lines.new.reports.errors))
    (written c.args.reports.now.path.now (refusal_text c.args.refusal) offers front.0 front.1)
    (c.tell_lines.ensures front.0 (c.as_str.ensures.value ∙ c.in-Ok.ensures ∙ front.1))

pub returns-in-Err : goal.returns-in-Err
returns-in-Err g c = no_memory c.tell_no_memory.ensures
