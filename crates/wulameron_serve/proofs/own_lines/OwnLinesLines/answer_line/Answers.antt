use Rattle.std.proofs.Common.{ℕ, ◌++◌, decimal, string_bytes, ap, ◌∙◌}
use Rattle.wulameron_serve.proofs.OwnCommands.{grows_other, grows_own}
use Rattle.wulameron_serve.proofs.own_lines.OwnLinesLines.answer_line.Goals as goal

pub returns-in-None-clause-answered : goal.returns-in-None-clause-answered
returns-in-None-clause-answered g c = λ before.
    grows_other g.A.OfNode.own_node (g.I.Lines.lines c.args.self.now.lines) c.args.answerer.now c.answer_line.new.answerer c.args.number c.args.line.now
    c.answer_line.result (string_bytes c.args.text.now) (string_bytes c.answer_line.new.text) c.in-None.ensures (c.answer_line.ensures.answered before)

pub returns-in_ok-named-in-Some-clause-answered : goal.returns-in_ok-named-in-Some-clause-answered
returns-in_ok-named-in-Some-clause-answered g c = λ stands.
    let front = c.in-Some.before.now in
    let behind = c.in-Some.behind.now in
    grows_own g.A.OfNode.own_node (g.I.Lines.lines c.args.self.now.lines) c.args.answerer.now c.answer_line-in-Some.new.answerer c.args.number c.args.line.now
    c.answer_line-in-Some.result front behind c.deref.result.now (string_bytes c.args.text.now) (string_bytes c.answer_line-in-Some.new.text) c.in-Some.ensures
    (c.deref.ensures.value ∙ c.in_ok-named-in-Some.ensures ∙ ap (λ (n : ℕ). front ++ (decimal n ++ behind)) c.own_node.ensures)
    (c.answer_line-in-Some.ensures.answered stands)
