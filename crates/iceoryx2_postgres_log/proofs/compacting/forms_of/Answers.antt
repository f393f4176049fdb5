use Rattle.std.proofs.Common.{◌∙◌, ◌++◌, ◌∷◌, [], ap}
use Rattle.iceoryx2_postgres_log.proofs.Copies.{forms-next}
use Rattle.iceoryx2_postgres_log.proofs.compacting.forms_of.Goals as goal

pub loop-entry-preserved : goal.loop-entry-preserved
loop-entry-preserved c =
    forms-next c.loop-entry.entry-index c.args.entries.now c.loop-entry.forms.items c.push.new.self.items c.entry-item.result
    c.in_ok-form.form.items c.loop-entry.invariant c.loop-entry-test.true c.entry-item.is c.in_ok-form.ensures.ok
    (c.in-Ok.ensures.items ∙ ap (λ l. c.loop-entry.forms.items ++ l ∷ []) c.new.ensures)
