use Rattle.std.proofs.Common.{string_bytes}
use Rattle.escaped_serve.proofs.PlainLines.{known_blank}
use Rattle.escaped_serve.proofs.lines.answer_known.Goals as goal

pub returns-in-Blank-clause-answered : goal.returns-in-Blank-clause-answered
returns-in-Blank-clause-answered g c = λ stands.
    known_blank g.A.Answerer.answers g.A.Asked.answers_escaped g.A.Asked.asked c.args.answerer.now c.args.line.now (string_bytes c.args.text.now) c.args.known c.in-Blank.is
