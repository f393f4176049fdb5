use Rattle.negotiate_lines.proofs.KnownLines.{line_known, no_text_known}
use Rattle.negotiate_lines.proofs.line.parse_in.Goals as goal

pub returns-in-Ok : goal.returns-in-Ok
returns-in-Ok c = line_known c.args.form c.args.line.now c.in-Ok.text.now c.parse_text.result c.in-Ok.ensures.cases.0 c.in-Ok.ensures.cases.1 c.parse_text.ensures

pub returns-in-Err : goal.returns-in-Err
returns-in-Err c = no_text_known c.args.form c.args.line.now c.in-Err.ensures.cases.0
