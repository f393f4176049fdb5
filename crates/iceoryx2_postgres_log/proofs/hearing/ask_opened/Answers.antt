use Rattle.std.proofs.Common.{subst, refl}
use Rattle.iceoryx2_postgres_log.specs.Standing.{IsStart}
use Rattle.iceoryx2_postgres_log.proofs.Told.{asks_as}
use Rattle.iceoryx2_postgres_log.proofs.hearing.ask_opened.Goals as goal

pub returns : goal.returns
returns g c = record {
  row = c.in-Some.row;
  asks = asks_as _ _ _ _ _ _ _ _ _ _ _ c.in_ok-reply.ensures.asked c.in_ok-reply.ensures.heard refl c.in-Some.ensures.0
      c.in-Some.ensures.1;
  start = subst (λ l. IsStart l c.in_ok-start.start) c.as_slice.ensures c.in_ok-start.ensures;
}
