use Rattle.std.proofs.Common.{◌+◌, Result, Ok, Err, refl, sym, subst, rules, arith, ◌∙◌}
use Rattle.negotiate_serve.specs.declared.ending.Ending.{Ending}
use Rattle.negotiate_serve.specs.declared.ending.ServeError.{ServeError}
use Rattle.negotiate_serve.specs.Served.{AnswersAll}
use Rattle.negotiate_serve.proofs.Answering.{nothing_so_far, turn_goes_on, turn_ends, turn_fails, too_many}
use Rattle.wulameron_serve.specs.Lines.{AnswersWhileUsable}
use Rattle.wulameron_serve.proofs.UntilHalted.{seen_failure, serving_is_no_end, log_ends, turn_also}
use Rattle.wulameron_serve.proofs.lines.answer_lines.Goals as goal

pub loop-number-init : goal.loop-number-init
loop-number-init g c = record {
  answered = λ input known. nothing_so_far (AnswersWhileUsable g.A.Troubled.trouble (g.L.Lines.lines c.args.lines.now)) c.args.answerer.now input (g.R.Read.remaining c.args.reader.now)
      (g.W.Write.contents c.args.output.now) known;
  stands = c.requires.stands;
  usable = c.requires.usable;
}

pub loop-number-preserved : goal.loop-number-preserved
loop-number-preserved g c = record {
  answered = λ input known.
      let a = c.loop-number.invariant.answered input known in
      let Usable = AnswersWhileUsable g.A.Troubled.trouble (g.L.Lines.lines c.args.lines.now) in
      let left = g.R.Read.remaining c.answer_next.new.reader in
      let mid = g.W.Write.contents c.loop-number.output in
      let new = g.W.Write.contents c.answer_next.new.output in
      turn_goes_on Usable c.args.answerer.now input c.loop-number.number (g.R.Read.remaining c.loop-number.reader) left (g.W.Write.contents c.args.output.now) mid new
      c.loop-number.answerer c.answer_next.new.answerer a _ c.in_ok-ending.ending
      (turn_also (g.L.Lines.lines c.args.lines.now) Usable c.loop-number.answerer (λ line text n by. (c.loop-number.invariant.usable, by)) (Ok c.in_ok-ending.ending)
      c.loop-number.number a.rest left c.answer_next.new.answerer mid new (c.in_ok-ending.ensures.turn c.loop-number.invariant.stands a.rest a.left_is)) (search rules) refl;
  stands = c.answer_next.ensures.stands c.loop-number.invariant.stands;
  usable = sym c.look.ensures ∙ search rules;
}

pub returns-in_err-ending-clause-answered : goal.returns-in_err-ending-clause-answered
returns-in_err-ending-clause-answered g c = λ input known.
    let a = c.loop-number.invariant.answered input known in
    let Usable = AnswersWhileUsable g.A.Troubled.trouble (g.L.Lines.lines c.args.lines.now) in
    let next = g.R.Read.remaining c.answer_next.new.reader in
    let old = g.W.Write.contents c.args.output.now in
    let mid = g.W.Write.contents c.loop-number.output in
    let new = g.W.Write.contents c.answer_next.new.output in
    let fault = c.in_err-ending.field-0.0 in
    subst (λ (r : Result Ending ServeError). AnswersAll Usable c.args.answerer.now r input next old new)
    (sym (seen_failure c.from_residual.result fault c.from_residual.ensures.1))
    (turn_fails Usable c.args.answerer.now input c.loop-number.number (g.R.Read.remaining c.loop-number.reader) next old mid new
    c.loop-number.answerer c.answer_next.new.answerer a fault
    (turn_also (g.L.Lines.lines c.args.lines.now) Usable c.loop-number.answerer (λ line text n by. (c.loop-number.invariant.usable, by)) (Err fault)
    c.loop-number.number a.rest next c.answer_next.new.answerer mid new (c.in_err-ending.ensures.turn c.loop-number.invariant.stands a.rest a.left_is)))

pub returns-in_err-ending-clause-stands : goal.returns-in_err-ending-clause-stands
returns-in_err-ending-clause-stands g c = c.answer_next.ensures.stands c.loop-number.invariant.stands

pub returns-in_err-ending-clause-log : goal.returns-in_err-ending-clause-log
returns-in_err-ending-clause-log g c = serving_is_no_end (g.A.Troubled.trouble c.answer_next.new.answerer) c.from_residual.result c.in_err-ending.field-0.0 c.from_residual.ensures.1

pub returns-in-Some-clause-answered : goal.returns-in-Some-clause-answered
returns-in-Some-clause-answered g c = λ input known.
    let a = c.loop-number.invariant.answered input known in
    let Usable = AnswersWhileUsable g.A.Troubled.trouble (g.L.Lines.lines c.args.lines.now) in
    let left = g.R.Read.remaining c.answer_next.new.reader in
    let mid = g.W.Write.contents c.loop-number.output in
    let new = g.W.Write.contents c.answer_next.new.output in
    turn_ends Usable c.args.answerer.now input c.loop-number.number (g.R.Read.remaining c.loop-number.reader) left (g.W.Write.contents c.args.output.now) mid new
    c.loop-number.answerer c.answer_next.new.answerer a c.in_ok-ending.ending c.in-Some.ending
    (turn_also (g.L.Lines.lines c.args.lines.now) Usable c.loop-number.answerer (λ line text n by. (c.loop-number.invariant.usable, by)) (Ok c.in_ok-ending.ending)
    c.loop-number.number a.rest left c.answer_next.new.answerer mid new (c.in_ok-ending.ensures.turn c.loop-number.invariant.stands a.rest a.left_is)) c.in-Some.is

pub returns-in-Some-clause-stands : goal.returns-in-Some-clause-stands
returns-in-Some-clause-stands g c = c.answer_next.ensures.stands c.loop-number.invariant.stands

pub returns-clause-answered : goal.returns-clause-answered
returns-clause-answered g c = λ input known.
    too_many (AnswersWhileUsable g.A.Troubled.trouble (g.L.Lines.lines c.args.lines.now)) c.args.answerer.now input c.loop-number.number (g.R.Read.remaining c.loop-number.reader)
    (g.R.Read.remaining c.loop-number.reader) (g.W.Write.contents c.args.output.now) (g.W.Write.contents c.loop-number.output) c.loop-number.answerer
    (omega (arith, c.loop-number-test.false, c.loop-number.auto.number-end)) (c.loop-number.invariant.answered input known)

pub returns-clause-stands : goal.returns-clause-stands
returns-clause-stands g c = c.loop-number.invariant.stands

pub returns-in-Some-look-clause-answered : goal.returns-in-Some-look-clause-answered
returns-in-Some-look-clause-answered g c = λ input known.
    let a = c.loop-number.invariant.answered input known in
    let Usable = AnswersWhileUsable g.A.Troubled.trouble (g.L.Lines.lines c.args.lines.now) in
    let left = g.R.Read.remaining c.answer_next.new.reader in
    let old = g.W.Write.contents c.args.output.now in
    let mid = g.W.Write.contents c.loop-number.output in
    let new = g.W.Write.contents c.answer_next.new.output in
    log_ends Usable c.args.answerer.now input (c.loop-number.number + 1) left old new c.answer_next.new.answerer
    (turn_goes_on Usable c.args.answerer.now input c.loop-number.number (g.R.Read.remaining c.loop-number.reader) left old mid new
    c.loop-number.answerer c.answer_next.new.answerer a (c.loop-number.number + 1) c.in_ok-ending.ending
    (turn_also (g.L.Lines.lines c.args.lines.now) Usable c.loop-number.answerer (λ line text n by. (c.loop-number.invariant.usable, by)) (Ok c.in_ok-ending.ending)
    c.loop-number.number a.rest left c.answer_next.new.answerer mid new (c.in_ok-ending.ensures.turn c.loop-number.invariant.stands a.rest a.left_is)) (search rules) refl)

pub returns-in-Some-look-clause-stands : goal.returns-in-Some-look-clause-stands
returns-in-Some-look-clause-stands g c = c.answer_next.ensures.stands c.loop-number.invariant.stands

pub returns-in-Some-look-clause-log : goal.returns-in-Some-look-clause-log
returns-in-Some-look-clause-log g c = sym c.look.ensures ∙ c.in-Some-look.is
