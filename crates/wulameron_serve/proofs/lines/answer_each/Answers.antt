use Rattle.std.proofs.Common.{Err, subst}
use Rattle.negotiate_serve.specs.Served.{AnswersAll}
use Rattle.negotiate_serve.proofs.Answering.{served, served_to_failure}
use Rattle.wulameron_place.specs.declared.halt.Halt.{Halt}
use Rattle.wulameron_serve.specs.Lines.{AnswersWhileUsable, IsEndOf, seen_as}
use Rattle.wulameron_serve.proofs.UntilHalted.{served_to_halt}
use Rattle.wulameron_serve.proofs.lines.answer_each.Goals as goal

pub returns-in-Ok-clause-serves : goal.returns-in-Ok-clause-serves
returns-in-Ok-clause-serves g c = λ input known.
    let done = served (AnswersWhileUsable g.A.Troubled.trouble (g.L.Lines.lines c.args.lines.now)) c.args.answerer.now input c.in-Ok.ending (g.R.Read.remaining c.answer_lines.new.reader)
    (g.W.Write.contents c.args.output.now) (g.W.Write.contents c.answer_lines.new.output) (c.in-Ok.ensures.answered input known) in
    (done.0, done.1)

pub returns-in-Ok-clause-stands : goal.returns-in-Ok-clause-stands
returns-in-Ok-clause-stands g c = c.answer_lines.ensures.stands

pub returns-in-Log-clause-serves : goal.returns-in-Log-clause-serves
returns-in-Log-clause-serves g c = λ input known.
    let Usable = AnswersWhileUsable g.A.Troubled.trouble (g.L.Lines.lines c.args.lines.now) in
    let left = g.R.Read.remaining c.answer_lines.new.reader in
    let old = g.W.Write.contents c.args.output.now in
    let new = g.W.Write.contents c.answer_lines.new.output in
    served_to_halt Usable c.args.answerer.now input left old new
    (subst (λ (h : Halt). AnswersAll Usable c.args.answerer.now (seen_as (Err h)) input left old new) c.in-Log.is (c.in-Err.ensures.answered input known))

pub returns-in-Log-clause-stands : goal.returns-in-Log-clause-stands
returns-in-Log-clause-stands g c = c.answer_lines.ensures.stands

pub returns-in-Log-clause-log : goal.returns-in-Log-clause-log
returns-in-Log-clause-log g c = subst (λ (h : Halt). IsEndOf (g.A.Troubled.trouble c.answer_lines.new.answerer) (Err h)) c.in-Log.is c.in-Err.ensures.log

pub returns-in-Owing-clause-serves : goal.returns-in-Owing-clause-serves
returns-in-Owing-clause-serves g c = λ input known.
    let Usable = AnswersWhileUsable g.A.Troubled.trouble (g.L.Lines.lines c.args.lines.now) in
    let left = g.R.Read.remaining c.answer_lines.new.reader in
    let old = g.W.Write.contents c.args.output.now in
    let new = g.W.Write.contents c.answer_lines.new.output in
    served_to_halt Usable c.args.answerer.now input left old new
    (subst (λ (h : Halt). AnswersAll Usable c.args.answerer.now (seen_as (Err h)) input left old new) c.in-Owing.is (c.in-Err.ensures.answered input known))

pub returns-in-Owing-clause-stands : goal.returns-in-Owing-clause-stands
returns-in-Owing-clause-stands g c = c.answer_lines.ensures.stands

pub returns-in-Owing-clause-log : goal.returns-in-Owing-clause-log
returns-in-Owing-clause-log g c = subst (λ (h : Halt). IsEndOf (g.A.Troubled.trouble c.answer_lines.new.answerer) (Err h)) c.in-Owing.is c.in-Err.ensures.log

pub returns-in-Serving-clause-serves : goal.returns-in-Serving-clause-serves
returns-in-Serving-clause-serves g c = λ input known.
    let Usable = AnswersWhileUsable g.A.Troubled.trouble (g.L.Lines.lines c.args.lines.now) in
    let left = g.R.Read.remaining c.answer_lines.new.reader in
    let old = g.W.Write.contents c.args.output.now in
    let mid = g.W.Write.contents c.answer_lines.new.output in
    let new = g.W.Write.contents c.write_failure-fault.new.output in
    served_to_failure Usable c.args.answerer.now input c.in-Serving.fault c.write_failure-fault.result left old mid new
    (subst (λ (h : Halt). AnswersAll Usable c.args.answerer.now (seen_as (Err h)) input left old mid) c.in-Serving.is (c.in-Err.ensures.answered input known)) c.write_failure-fault.ensures

pub returns-in-Serving-clause-stands : goal.returns-in-Serving-clause-stands
returns-in-Serving-clause-stands g c = c.answer_lines.ensures.stands
