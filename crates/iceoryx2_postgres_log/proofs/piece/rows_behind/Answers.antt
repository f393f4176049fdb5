use Rattle.std.proofs.Common.{◌≡◌, ◌+◌, subst, arith}
use Rattle.iceoryx2_postgres_log.specs.Rows.{IsRow}
use Rattle.iceoryx2_postgres_log.proofs.RowParts.{rows_next}
use Rattle.iceoryx2_postgres_log.proofs.piece.rows_behind.Goals as goal

pub loop-line-preserved : goal.loop-line-preserved
loop-line-preserved c =
    let next : c.in-Some.next ≡ c.args.number + c.loop-line.line-index + 1 =
    omega (arith, c.in-Some.ensures, c.loop-line.invariant.last) in
    record {
      last = omega (arith, next);
      rows = rows_next c.args.number c.in-Some.next c.loop-line.line-index c.args.lines.now c.loop-line.rows.items
          c.push_back.new.self.items c.line-item.result c.in-Some-found.row c.loop-line.invariant.rows c.loop-line-test.true
          c.line-item.is next
          (subst (λ l. IsRow c.in-Some.next l c.in-Some-found.row) c.as_slice.ensures (rw c.in-Some-found.is at c.in-Ok.ensures))
          c.in-Ok-push_back.ensures.items;
    }
