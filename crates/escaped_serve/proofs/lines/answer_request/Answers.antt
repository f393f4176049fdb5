use Rattle.std.proofs.Common.{sym, ◌∙◌}
use Rattle.escaped_serve.proofs.Commanded.{known_answered}
use Rattle.escaped_serve.proofs.lines.answer_request.Goals as goal

pub returns-clause-answered : goal.returns-clause-answered
returns-clause-answered g c = λ stands.
    known_answered g.A.Answerer.answers g.A.Asked.answers_escaped g.A.Asked.asked c.args.answerer.now _ c.args.line.now _ _ c.in_ok-known.known
    (sym c.begins_otherwise.ensures ∙ c.if-begins_otherwise.false) c.in_ok-known.ensures c.answer_known.result (c.answer_known.ensures.answered stands)
