use Rattle.std.proofs.Common.{◌∙◌, subst, refl, List, ℕ, inr}
use Rattle.std.specs.Io.KnownBytes.{Appends}
use Rattle.iceoryx2_postgres_log.specs.Hearing.{IsHeldPiece}
use Rattle.iceoryx2_postgres_log.proofs.Told.{asks_as}
use Rattle.iceoryx2_postgres_log.proofs.hearing.ask_hold.Goals as goal

pub returns-in-Ok-held_piece-clause-ok : goal.returns-in-Ok-held_piece-clause-ok
returns-in-Ok-held_piece-clause-ok g c = record {
  rows = c.in-Ok-ask.reply.rows.items;
  asks = asks_as _ _ _ _ _ _ _ _ _ _ _ c.in-Ok-ask.ensures.asked c.in-Ok-ask.ensures.heard
      (c.as_bytes.ensures.value ∙ c.in-Ok.ensures) refl (c.ends.ensures c.if-not-ends.false);
  is = subst (λ (l : List (List ℕ)). IsHeldPiece c.args.at.now l c.in-Ok-held_piece.piece) c.deref.ensures.value
      c.in-Ok-held_piece.ensures.ok;
}

pub returns-then-is_short-clause-busy : goal.returns-then-is_short-clause-busy
returns-then-is_short-clause-busy g c = λ e.
    let short = c.is_short.ensures c.if-is_short.true in
    record {
      rows = c.in-Ok-ask.reply.rows.items;
      asks = asks_as _ _ _ _ _ _ _ _ _ _ _ c.in-Ok-ask.ensures.asked c.in-Ok-ask.ensures.heard
          (c.as_bytes.ensures.value ∙ c.in-Ok.ensures) refl short.1;
      few = short.0;
    }

pub returns-in-Ok-write_letting_go-clause-memory : goal.returns-in-Ok-write_letting_go-clause-memory
returns-in-Ok-write_letting_go-clause-memory g c = λ e. inr (record {
  between = g.W.Write.contents c.ask.new.questions;
  holds = subst (Appends (g.W.Write.contents c.args.questions.now) (g.W.Write.contents c.ask.new.questions))
      (c.as_bytes.ensures.value ∙ c.in-Ok.ensures) c.in-Ok-ask.ensures.asked;
  lets_go = c.in-Ok-write_letting_go.ensures.ok;
})
