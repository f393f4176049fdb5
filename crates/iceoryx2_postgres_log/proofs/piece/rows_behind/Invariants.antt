use Rattle.std.proofs.Common.{◌≡◌, ◌+◌, take}
use Rattle.iceoryx2_postgres_log.specs.Rows.{AreRows}
use Rattle.iceoryx2_postgres_log.proofs.piece.rows_behind.Given as goal

abbrev pub invariant-loop-line : goal.invariant-loop-line
invariant-loop-line l = record {
  last : l.last ≡ l.number + l.line-index;
  rows : AreRows l.number (take l.line-index l.lines) l.rows.items;
}
