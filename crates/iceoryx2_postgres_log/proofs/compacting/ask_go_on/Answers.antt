use Rattle.std.proofs.Common.{◌∙◌, refl, inr}
use Rattle.iceoryx2_postgres_log.proofs.Told.{asks_as}
use Rattle.iceoryx2_postgres_log.proofs.Undone.{refused_going}
use Rattle.iceoryx2_postgres_log.proofs.compacting.ask_go_on.Goals as goal

pub returns-clause-refused : goal.returns-clause-refused
returns-clause-refused g c =
    inr (refused_going _ _ _ _ _ _ _ _ _ _ c.refusal.result
    (asks_as _ _ _ _ _ _ _ _ _ _ _ c.in-Ok-ask.ensures.asked c.in-Ok-ask.ensures.heard
    (c.as_bytes.ensures.value ∙ c.in-Ok.ensures) refl refl)
    c.of_append.ensures.known c.of_append.ensures.over c.of_append.ensures.same c.refusal.ensures)
