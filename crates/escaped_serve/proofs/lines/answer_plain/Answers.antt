use Rattle.std.proofs.Common.{string_bytes}
use Rattle.escaped_serve.proofs.PlainLines.{plain_answered, plain_blank, plain_wrong}
use Rattle.escaped_serve.proofs.lines.answer_plain.Goals as goal

pub returns-in-Blank-clause-answered : goal.returns-in-Blank-clause-answered
returns-in-Blank-clause-answered g c = λ stands.
    plain_blank g.A.Answerer.answers c.args.answerer.now c.args.line.now (string_bytes c.args.text.now) (string_bytes c.write_told.new.text) c.in_ok-parse.field-0 c.in_ok-parse.ensures
    c.in-Blank.is c.write_told.result c.write_told.ensures

pub returns-in_ok-answer-in-Command-clause-answered : goal.returns-in_ok-answer-in-Command-clause-answered
returns-in_ok-answer-in-Command-clause-answered g c = λ stands.
    plain_answered g.A.Answerer.answers c.args.answerer.now c.args.line.now (string_bytes c.args.text.now) (string_bytes c.write_told-in-Command.new.text) c.in_ok-parse.field-0 c.in_ok-parse.ensures
    c.answer.new.self c.in-Command.command (string_bytes c.in_ok-told-in-Command.told) (string_bytes c.answer.new.text) c.deref.result.now c.in-Command.is c.in_ok-told-in-Command.ensures.bytes
    (c.in_ok-answer-in-Command.ensures.answered stands) c.deref.ensures c.write_told-in-Command.result c.write_told-in-Command.ensures

pub returns-in_ok-told-in-NotACommand-clause-answered : goal.returns-in_ok-told-in-NotACommand-clause-answered
returns-in_ok-told-in-NotACommand-clause-answered g c = λ stands.
    plain_wrong g.A.Answerer.answers c.args.answerer.now c.args.line.now (string_bytes c.args.text.now) (string_bytes c.write_told-in-NotACommand.new.text) c.in_ok-parse.field-0
    c.in_ok-parse.ensures c.in-NotACommand.wrong (string_bytes c.in_ok-told-in-NotACommand.told) c.deref-in-NotACommand.result.now c.in-NotACommand.is
    c.in_ok-told-in-NotACommand.ensures c.deref-in-NotACommand.ensures c.write_told-in-NotACommand.result c.write_told-in-NotACommand.ensures
