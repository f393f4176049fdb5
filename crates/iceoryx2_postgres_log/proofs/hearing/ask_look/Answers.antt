use Rattle.std.proofs.Common.{◌∙◌, subst, refl, List, ℕ}
use Rattle.iceoryx2_postgres_log.specs.Pieces.{IsPiece}
use Rattle.iceoryx2_postgres_log.proofs.Told.{asks_as}
use Rattle.iceoryx2_postgres_log.proofs.hearing.ask_look.Goals as goal

pub returns-in-Ok-piece_of-clause-ok : goal.returns-in-Ok-piece_of-clause-ok
returns-in-Ok-piece_of-clause-ok g c =
    let p = c.in-Ok-piece_of.piece in
    record {
      rows = c.in-Ok-ask.reply.rows.items;
      asks = asks_as _ _ _ _ _ _ _ _ _ _ _ c.in-Ok-ask.ensures.asked c.in-Ok-ask.ensures.heard
          (c.as_bytes.ensures.value ∙ c.in-Ok.ensures) refl (c.ends.ensures c.if-not-ends.false);
      is = subst (λ (l : List (List ℕ)). IsPiece c.args.at.now.number c.args.until c.args.at.now.place l p.last p.rows.items)
          c.deref.ensures.value
          (subst (λ (l : List ℕ). IsPiece c.args.at.now.number c.args.until l c.deref.result.now p.last p.rows.items)
          c.as_slice.ensures c.in-Ok-piece_of.ensures.ok);
    }
