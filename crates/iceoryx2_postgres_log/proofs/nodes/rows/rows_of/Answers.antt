use Rattle.std.proofs.Common.{◌<◌, All, subst, sym, ◌∙◌}
use Rattle.iceoryx2_postgres_log.specs.declared.nodes.NodeRow.{NodeRow}
use Rattle.iceoryx2_postgres_log.specs.Nodes.{IsRising}
use Rattle.iceoryx2_postgres_log.proofs.NodeRows.{rows_more, rising_push}
use Rattle.iceoryx2_postgres_log.proofs.nodes.rows.rows_of.Goals as goal

pub loop-line-preserved : goal.loop-line-preserved
loop-line-preserved c =
    let old = c.loop-line.rows.items in
    let row = c.in-Some.row in
    let above : All (λ (other : NodeRow). other.node < row.node) old =
    subst (All (λ (other : NodeRow). other.node < row.node)) c.deref.ensures.value (c.is_above.ensures c.if-not-is_above.false) in
    record {
      told = rows_more c.args.lines.now c.loop-line.line-index c.line-item.result old c.push.new.self.items row
          c.loop-line.invariant.told c.loop-line-test.true c.line-item.is
          (sym c.as_slice.ensures ∙ (rw c.in-Some.is at c.in_ok-row.ensures)) c.in_ok-push.ensures.items;
      rising = subst IsRising (sym c.in_ok-push.ensures.items) (rising_push old row c.loop-line.invariant.rising above);
    }
