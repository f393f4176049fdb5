use Rattle.std.proofs.Common.{ap, ◌∙◌}
use Rattle.negotiate_serve.proofs.Answering.{read_ahead, served, served_nothing, served_to_failure}
use Rattle.negotiate_serve.specs.Transcripts.{AnswersLineBy}
use Rattle.negotiate_serve.proofs.serve.serve_by.Goals as goal

pub returns-in-Ok-answer_lines-clause-serves : goal.returns-in-Ok-answer_lines-clause-serves
returns-in-Ok-answer_lines-clause-serves g c = λ bytes known.
    let made = c.in-Ok.ensures in
    let all = served (AnswersLineBy g.A.Answerer.answers) c.args.answerer.now bytes c.in-Ok-answer_lines.ending _ (g.W.Write.contents c.args.output.now)
    (g.W.Write.contents c.answer_lines.new.output)
    (c.in-Ok-answer_lines.ensures.answered bytes (read_ahead _ _ (g.R.Read.remaining c.in-Ok.reader.inner) bytes made.capacity made.empty (ap g.R.Read.remaining made.inner ∙ known))) in
    (all.0, all.1)

pub returns-in-Ok-clause-serves : goal.returns-in-Ok-clause-serves
returns-in-Ok-clause-serves g c = λ bytes known.
    let made = c.in-Ok.ensures in
    served_to_failure (AnswersLineBy g.A.Answerer.answers) c.args.answerer.now bytes c.in-Err-answer_lines.failure c.write_failure.result _ (g.W.Write.contents c.args.output.now)
    (g.W.Write.contents c.answer_lines.new.output) (g.W.Write.contents c.write_failure.new.output)
    (c.in-Err-answer_lines.ensures.answered bytes (read_ahead _ _ (g.R.Read.remaining c.in-Ok.reader.inner) bytes made.capacity made.empty (ap g.R.Read.remaining made.inner ∙ known)))
    c.write_failure.ensures

pub returns-clause-serves : goal.returns-clause-serves
returns-clause-serves g c = λ bytes known.
    served_nothing (AnswersLineBy g.A.Answerer.answers) c.args.answerer.now bytes c.of_reading.result c.write_failure-in-Err.result (g.W.Write.contents c.args.output.now) (g.W.Write.contents c.write_failure-in-Err.new.output)
    c.of_reading.ensures.of_reading c.write_failure-in-Err.ensures
