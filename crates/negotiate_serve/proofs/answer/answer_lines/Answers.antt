use Rattle.std.proofs.Common.{Result, refl, sym, subst, rules, arith}
use Rattle.negotiate_serve.specs.declared.ending.Ending.{Ending}
use Rattle.negotiate_serve.specs.declared.ending.ServeError.{ServeError}
use Rattle.negotiate_serve.specs.Served.{AnswersAll}
use Rattle.negotiate_serve.proofs.Turns.{as_failure}
use Rattle.negotiate_serve.proofs.Answering.{nothing_so_far, turn_goes_on, turn_ends, turn_fails, too_many}
use Rattle.negotiate_serve.specs.Transcripts.{AnswersLineBy}
use Rattle.negotiate_serve.proofs.answer.answer_lines.Goals as goal

pub loop-number-init : goal.loop-number-init
loop-number-init g c = record {
  answered = λ input known. nothing_so_far (AnswersLineBy g.A.Answerer.answers) c.args.answerer.now input (g.R.Read.remaining c.args.reader.now) (g.W.Write.contents c.args.output.now) known;
  stands = c.requires;
}

pub loop-number-preserved : goal.loop-number-preserved
loop-number-preserved g c = record {
  answered = λ input known.
      let a = c.loop-number.invariant.answered input known in
      turn_goes_on (AnswersLineBy g.A.Answerer.answers) c.args.answerer.now input c.loop-number.number (g.R.Read.remaining c.loop-number.reader) (g.R.Read.remaining c.answer_next.new.reader)
      (g.W.Write.contents c.args.output.now) (g.W.Write.contents c.loop-number.output) (g.W.Write.contents c.answer_next.new.output)
      c.loop-number.answerer c.answer_next.new.answerer a _ c.in_ok-ending.ending
      (c.in_ok-ending.ensures.turn c.loop-number.invariant.stands a.rest a.left_is) (search rules) refl;
  stands = c.answer_next.ensures.stands c.loop-number.invariant.stands;
}

pub returns-in_err-ending-clause-answered : goal.returns-in_err-ending-clause-answered
returns-in_err-ending-clause-answered g c = λ input known.
    let a = c.loop-number.invariant.answered input known in
    let next = g.R.Read.remaining c.answer_next.new.reader in
    let old = g.W.Write.contents c.args.output.now in
    let new = g.W.Write.contents c.answer_next.new.output in
    let failure = c.in_err-ending.field-0.0 in
    subst (λ (r : Result Ending ServeError). AnswersAll (AnswersLineBy g.A.Answerer.answers) c.args.answerer.now r input next old new)
    (sym (as_failure c.from_residual.result failure c.from_residual.ensures.1))
    (turn_fails (AnswersLineBy g.A.Answerer.answers) c.args.answerer.now input c.loop-number.number (g.R.Read.remaining c.loop-number.reader) next old (g.W.Write.contents c.loop-number.output) new
    c.loop-number.answerer c.answer_next.new.answerer a failure (c.in_err-ending.ensures.turn c.loop-number.invariant.stands a.rest a.left_is))

pub returns-in_err-ending-clause-stands : goal.returns-in_err-ending-clause-stands
returns-in_err-ending-clause-stands g c = c.answer_next.ensures.stands c.loop-number.invariant.stands

pub returns-in-Some-clause-answered : goal.returns-in-Some-clause-answered
returns-in-Some-clause-answered g c = λ input known.
    let a = c.loop-number.invariant.answered input known in
    turn_ends (AnswersLineBy g.A.Answerer.answers) c.args.answerer.now input c.loop-number.number (g.R.Read.remaining c.loop-number.reader) (g.R.Read.remaining c.answer_next.new.reader)
    (g.W.Write.contents c.args.output.now) (g.W.Write.contents c.loop-number.output) (g.W.Write.contents c.answer_next.new.output)
    c.loop-number.answerer c.answer_next.new.answerer a c.in_ok-ending.ending c.in-Some.ending
    (c.in_ok-ending.ensures.turn c.loop-number.invariant.stands a.rest a.left_is) c.in-Some.is

pub returns-in-Some-clause-stands : goal.returns-in-Some-clause-stands
returns-in-Some-clause-stands g c = c.answer_next.ensures.stands c.loop-number.invariant.stands

pub returns-clause-answered : goal.returns-clause-answered
returns-clause-answered g c = λ input known.
    too_many (AnswersLineBy g.A.Answerer.answers) c.args.answerer.now input c.loop-number.number (g.R.Read.remaining c.loop-number.reader) (g.R.Read.remaining c.loop-number.reader)
    (g.W.Write.contents c.args.output.now) (g.W.Write.contents c.loop-number.output) c.loop-number.answerer (omega (arith, c.loop-number-test.false, c.loop-number.auto.number-end)) (c.loop-number.invariant.answered input known)

pub returns-clause-stands : goal.returns-clause-stands
returns-clause-stands g c = c.loop-number.invariant.stands
