use Rattle.std.proofs.Common.{◌∙◌, ap, refl, inr}
use Rattle.iceoryx2_postgres_log.specs.Questions.{copying}
use Rattle.iceoryx2_postgres_log.specs.Compacting.{nothing, copies}
use Rattle.iceoryx2_postgres_log.proofs.Told.{asks_as}
use Rattle.iceoryx2_postgres_log.proofs.compacting.ask_copy.Goals as goal

pub returns-clause-err : goal.returns-clause-err
returns-clause-err g c =
    let at = c.args.at.now in
    inr (inr (copies (nothing refl refl) at.log at.generation at.number c.in_ok-forms.forms.items c.in-Ok.reply.rows.items
    c.in-Ok.reply.end (asks_as _ _ _ _ _ _ _ _ _ _ _ c.in-Ok.ensures.asked c.in-Ok.ensures.heard
    (c.as_bytes.ensures.value ∙ c.in_ok-question.ensures
    ∙ ap (copying at.log at.generation at.number) c.deref.ensures.value) refl refl)))
