use Rattle.std.proofs.Common.{List, ℕ, refl, subst, ◌∙◌}
use Rattle.wulameron_place.specs.Troubles.{WritesLine, no_memory, trouble_line}
use Rattle.wulameron_serve.proofs.holding.tell_service.Goals as goal

pub returns-in-Ok : goal.returns-in-Ok
returns-in-Ok g c =
    subst (λ (t : List ℕ). WritesLine (trouble_line c.args.reports.now.path.now t) c.tell.result (g.E.Write.contents c.args.reports.now.errors) (g.E.Write.contents c.tell.new.self.errors))
    (c.as_str.ensures.value ∙ c.in-Ok.ensures) (c.tell.ensures c.as_str.result.now refl)

pub returns-in-Err : goal.returns-in-Err
returns-in-Err g c = no_memory c.tell_no_memory.ensures
