use Rattle.std.proofs.Common.{◌∙◌, subst, refl, inr}
use Rattle.iceoryx2_postgres_log.specs.Rows.{IsPlace}
use Rattle.iceoryx2_postgres_log.proofs.Told.{asks_as}
use Rattle.iceoryx2_postgres_log.proofs.Heard.{refused_append}
use Rattle.iceoryx2_postgres_log.proofs.hearing.ask_append.Goals as goal

pub returns-then-not-ends-clause-refused : goal.returns-then-not-ends-clause-refused
returns-then-not-ends-clause-refused g c =
    inr (refused_append c.args.at.now c.args.number c.args.form.now (g.W.Write.contents c.args.questions.now)
    (g.W.Write.contents c.ask.new.questions) (g.R.Read.remaining c.args.replies.now) (g.R.Read.remaining c.ask.new.replies)
    c.in-Ok-ask.reply.rows.items c.in-Ok-ask.reply.end c.of_append.result c.refusal.result
    (asks_as _ _ _ _ _ _ _ _ _ _ _ c.in-Ok-ask.ensures.asked c.in-Ok-ask.ensures.heard
    (c.as_bytes.ensures.value ∙ c.in-Ok.ensures) refl refl)
    c.of_append.ensures.known c.of_append.ensures.same c.refusal.ensures)

pub returns-in-Ok-true-clause-ok : goal.returns-in-Ok-true-clause-ok
returns-in-Ok-true-clause-ok g c = record {
  asks = asks_as _ _ _ _ _ _ _ _ _ _ _ c.in-Ok-ask.ensures.asked c.in-Ok-ask.ensures.heard
      (c.as_bytes.ensures.value ∙ c.in-Ok.ensures) c.in-Some.ensures.0 c.in-Some.ensures.1;
  is = subst (IsPlace c.args.number) c.as_slice.ensures (c.in-Ok-true.ensures c.in-Ok-true.field-0-test);
}
