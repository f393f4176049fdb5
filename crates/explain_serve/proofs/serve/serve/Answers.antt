use Rattle.std.proofs.Common.{Result, sym, subst, ◌∙◌}
use Rattle.negotiate_serve.specs.declared.ending.Ending.{Ending}
use Rattle.negotiate_serve.specs.declared.ending.ServeError.{ServeError}
use Rattle.negotiate_serve.proofs.Turns.{as_failure}
use Rattle.explain_serve.specs.Answered.{ExplainsInput}
use Rattle.explain_serve.proofs.Printing.{head_cut, behind_head}
use Rattle.explain_serve.proofs.serve.serve.Goals as goal

pub returns-in_err-write_out : goal.returns-in_err-write_out
returns-in_err-write_out g c = λ bytes known.
    let old = g.W.Write.contents c.args.output.now in
    let new = g.W.Write.contents c.write_out.new.output in
    let failure = c.in_err-write_out.field-0.0 in
    subst (λ (r : Result Ending ServeError). ExplainsInput c.args.format r bytes old new) (sym (as_failure c.from_residual.result failure c.from_residual.ensures.1))
    (head_cut c.args.format bytes c.as_bytes.result.now old new (c.as_bytes.ensures.value ∙ c.head.ensures) failure c.in_err-write_out.ensures)

pub returns : goal.returns
returns g c = λ bytes known.
    behind_head c.args.format bytes c.as_bytes.result.now (g.W.Write.contents c.args.output.now) (g.W.Write.contents c.serve_lines.new.output)
    (c.as_bytes.ensures.value ∙ c.head.ensures) (g.W.Write.contents c.write_out.new.output) c.serve_lines.result c.in_ok-write_out.ensures (c.serve_lines.ensures bytes known)
