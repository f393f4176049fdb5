use Rattle.std.proofs.Common.{List, ℕ, subst, ◌∙◌}
use Rattle.negotiate_serve.specs.Outputs.{Writes}
use Rattle.wulameron_place.specs.Troubles.{no_memory, written}
use Rattle.wulameron_place.proofs.reports.Reports.tell_at.Goals as goal

pub returns-in-Ok : goal.returns-in-Ok
returns-in-Ok g c = λ text known.
    written
    (subst (λ (l : List ℕ). Writes l c.write_out.result (g.E.Write.contents c.args.self.now.errors) (g.E.Write.contents c.write_out.new.output))
    (c.as_bytes.ensures.value ∙ c.in-Ok.ensures text known) c.write_out.ensures)

pub returns-in-Err : goal.returns-in-Err
returns-in-Err g c = λ text known. no_memory c.tell_no_memory.ensures
