use Rattle.std.proofs.Common.{sym, ap, ◌∙◌}
use Rattle.iceoryx2_world.specs.declared.listing.ListedRow.TheVariants as listed
use Rattle.explain_serve.proofs.Found.{found_at}
use Rattle.explain_serve.proofs.standing.service_at.Goals as goal

pub returns-in-Ok : goal.returns-in-Ok
returns-in-Ok c =
    found_at c.args.call.now c.args.entry.now c.in-Published.field-0 c.as_slice.result.now c.in-Ok.description
    (c.in-Published.is ∙ ap (λ b. listed.Published c.in-Published.field-0 b) (sym c.as_slice.ensures))
    c.in-Ok.ensures.found c.in-Ok.ensures.only c.kept_where_asked.result c.kept_where_asked.ensures
