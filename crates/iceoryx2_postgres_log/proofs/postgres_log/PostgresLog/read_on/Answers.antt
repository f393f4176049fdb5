use Rattle.std.proofs.Common.{inr, ap, arith}
use Rattle.std.proofs.lemmas.Grind.{common_steps}
use Rattle.iceoryx2_postgres_log.proofs.postgres_log.PostgresLog.read_on.Goals as goal

pub returns-else-is_empty-clause-ok : goal.returns-else-is_empty-clause-ok
returns-else-is_empty-clause-ok g c =
    let b = c.if-not-is_empty.false in
    let n = c.is_empty.ensures in
    let d = c.if-is_empty.false in
    let m = c.is_empty-in-Ok.ensures in
    inr (record {
      none = grind (arith, common_steps, b, n);
      more = c.if-self.false;
      piece = c.in-Ok.piece;
      look = c.in-Ok.ensures.ok;
      rows = ap (λ p. p.1.items) c.into_parts-last.ensures;
      some = grind (arith, common_steps, d, m);
    })
