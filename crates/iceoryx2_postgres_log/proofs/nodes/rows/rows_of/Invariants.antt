use Rattle.std.proofs.Common.{◌≡◌, take, map}
use Rattle.iceoryx2_postgres_log.specs.Nodes.{node_row, IsRising}
use Rattle.iceoryx2_postgres_log.proofs.nodes.rows.rows_of.Given as goal

abbrev pub invariant-loop-line : goal.invariant-loop-line
invariant-loop-line l = record {
  told : take l.line-index l.lines ≡ map node_row l.rows.items;
  rising : IsRising l.rows.items;
}
