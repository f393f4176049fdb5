use Rattle.std.proofs.Common.{ap, ◌∙◌}
use Rattle.negotiate_serve.proofs.Answering.{read_ahead, served_nothing}
use Rattle.wulameron_serve.specs.Lines.{AnswersWhileUsable}
use Rattle.wulameron_serve.proofs.lines.answer_until.Goals as goal

pub returns-in-Ok-clause-serves : goal.returns-in-Ok-clause-serves
returns-in-Ok-clause-serves g c = λ bytes known.
    let made = c.in-Ok.ensures in
    c.answer_each.ensures.serves bytes
    (read_ahead _ _ (g.R.Read.remaining c.in-Ok.reader.inner) bytes made.capacity made.empty (ap g.R.Read.remaining made.inner ∙ known))

pub returns-in-Err-clause-serves : goal.returns-in-Err-clause-serves
returns-in-Err-clause-serves g c = λ bytes known.
    served_nothing (AnswersWhileUsable g.A.Troubled.trouble (g.L.Lines.lines c.args.lines.now)) c.args.answerer.now bytes c.of_reading.result c.write_failure-fault.result
    (g.W.Write.contents c.args.output.now) (g.W.Write.contents c.write_failure-fault.new.output) c.of_reading.ensures.of_reading c.write_failure-fault.ensures
