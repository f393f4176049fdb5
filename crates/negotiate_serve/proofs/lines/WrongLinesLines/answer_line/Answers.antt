use Rattle.std.proofs.Common.{string_bytes, subst}
use Rattle.negotiate_lines.specs.Lines.{IsLine}
use Rattle.negotiate_serve.proofs.Shown.{answers_nothing, answers_command}
use Rattle.negotiate_serve.proofs.Refusing.{wrong_answered, wrong_ends}
use Rattle.negotiate_serve.proofs.lines.WrongLinesLines.answer_line.Goals as goal

pub returns-in-Blank-clause-answered : goal.returns-in-Blank-clause-answered
returns-in-Blank-clause-answered g c = λ stands.
    answers_nothing g.A.Answerer.answers c.args.answerer.now c.args.number c.args.line.now (string_bytes c.args.text.now) c.args.self.now c.in_ok-parse.field-0 c.in_ok-parse.ensures c.in-Blank.is

pub returns-in-NotACommand-clause-answered : goal.returns-in-NotACommand-clause-answered
returns-in-NotACommand-clause-answered g c = λ stands.
    wrong_answered c.args.number c.in-NotACommand.wrong (string_bytes c.args.text.now) (string_bytes c.answer_wrong.new.text) g.A.Answerer.answers c.args.answerer.now
    c.args.line.now (subst (IsLine c.args.line.now) c.in-NotACommand.is c.in_ok-parse.ensures) c.args.self.now c.answer_wrong.result c.answer_wrong.ensures

pub returns-in-NotACommand-clause-ends : goal.returns-in-NotACommand-clause-ends
returns-in-NotACommand-clause-ends g c =
    wrong_ends c.args.number c.in-NotACommand.wrong (string_bytes c.args.text.now) (string_bytes c.answer_wrong.new.text) c.args.self.now c.answer_wrong.result c.answer_wrong.ensures

pub returns-in_ok-answer-in-Command-clause-answered : goal.returns-in_ok-answer-in-Command-clause-answered
returns-in_ok-answer-in-Command-clause-answered g c = λ stands.
    answers_command g.A.Answerer.answers c.args.answerer.now c.args.number c.args.line.now (string_bytes c.args.text.now) c.args.self.now c.in_ok-parse.field-0 c.in_ok-parse.ensures
    c.answer.new.self (string_bytes c.answer.new.text) c.in-Command.command c.in-Command.is (c.in_ok-answer-in-Command.ensures.answered stands)
