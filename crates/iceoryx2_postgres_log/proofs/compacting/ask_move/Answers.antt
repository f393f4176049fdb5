use Rattle.std.proofs.Common.{◌≡◌, ◌+◌, ◌∙◌, ap, subst, refl, inr, ℕ}
use Rattle.iceoryx2_postgres_log.specs.Questions.{moving}
use Rattle.iceoryx2_postgres_log.specs.Compacting.{TellsMove, nothing, mark}
use Rattle.iceoryx2_postgres_log.proofs.Told.{asks_as}
use Rattle.iceoryx2_postgres_log.proofs.compacting.ask_move.Goals as goal

pub returns-in-Err-clause-err : goal.returns-in-Err-clause-err
returns-in-Err-clause-err g c =
    let at = c.args.at.now in
    inr (inr (mark (nothing refl refl) at.log at.generation c.in-Some.number c.in-Some-checked_add.later
    c.in_ok-form.form.items c.in-Ok.reply.rows.items c.in-Ok.reply.end
    (asks_as _ _ _ _ _ _ _ _ _ _ _ c.in-Ok.ensures.asked c.in-Ok.ensures.heard (c.as_bytes.ensures.value
    ∙ c.in_ok-question.ensures ∙ ap (moving at.log at.generation c.in-Some.number c.in-Some-checked_add.later)
    c.deref.ensures.value) refl refl)))

pub returns-clause-ok : goal.returns-clause-ok
returns-clause-ok g c =
    let at = c.args.at.now in
    let number : c.in-Some.number ≡ at.number + 1 = c.in-Some.ensures.1 in
    let later : c.in-Some-checked_add.later ≡ at.generation + 1 = c.in-Some-checked_add.ensures.1 in
    let question : c.as_bytes.result.now ≡ moving at.log at.generation (at.number + 1) (at.generation + 1) c.in_ok-form.form.items =
    c.as_bytes.ensures.value ∙ c.in_ok-question.ensures
    ∙ ap (moving at.log at.generation c.in-Some.number c.in-Some-checked_add.later) c.deref.ensures.value
    ∙ ap (λ (n : ℕ). moving at.log at.generation n c.in-Some-checked_add.later c.in_ok-form.form.items) number
    ∙ ap (λ (n : ℕ). moving at.log at.generation (at.number + 1) n c.in_ok-form.form.items) later in
    record {
      form = c.in_ok-form.form.items;
      mark = c.in_ok-form.ensures;
      rows = c.in-Ok.reply.rows.items;
      asks = asks_as _ _ _ _ _ _ _ _ _ _ _ c.in-Ok.ensures.asked c.in-Ok.ensures.heard question refl
          c.in-Ok-told_place.ensures.0;
      tells = subst (λ (n : ℕ). TellsMove n c.in-Ok.reply.rows.items c.in-Ok-told_place.place) number
          c.in-Ok-told_place.ensures.1;
      is = ap (λ (n : ℕ). record { log = at.log; generation = n; counter = 0; snapshot = c.args.snapshot; number = 0; place = c.in-Ok-told_place.place }) later;
    }
