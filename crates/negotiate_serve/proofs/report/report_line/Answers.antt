use Rattle.std.proofs.Common.{ℕ, List, string_bytes, subst}
use Rattle.negotiate_serve.specs.Outputs.{Writes}
use Rattle.negotiate_serve.specs.Reports.{IsReport}
use Rattle.negotiate_serve.proofs.Reporting.{writes_report}
use Rattle.negotiate_serve.proofs.report.report_line.Goals as goal

pub returns-in-Ok : goal.returns-in-Ok
returns-in-Ok g c =
    writes_report (IsReport c.args.program.now c.args.number c.args.line.now.items) (string_bytes c.in-Ok.text) c.write_out.result (g.W.Write.contents c.args.errors.now) (g.W.Write.contents c.write_out.new.output)
    (subst (λ (bytes : List ℕ). IsReport c.args.program.now c.args.number bytes (string_bytes c.in-Ok.text)) c.deref.ensures.value c.in-Ok.ensures)
    (subst (λ (text : List ℕ). Writes text c.write_out.result (g.W.Write.contents c.args.errors.now) (g.W.Write.contents c.write_out.new.output)) c.as_bytes.ensures.value c.write_out.ensures)
