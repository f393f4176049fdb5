use Rattle.std.proofs.Common.{◌≡◌, ◌+◌, ◌-◌, ◌≤◌, ◌++◌, length, drop}
use Rattle.iceoryx2_table.specs.Merge.{merge}
use Rattle.iceoryx2_table.proofs.merge.merge_entries.Given as goal

abbrev pub invariant-loop-row : goal.invariant-loop-row
invariant-loop-row l = record {
  same : l.entries.items ++ merge (drop l.row l.rows) (drop l.segment l.segments) ≡ merge l.rows l.segments;
  row_in_range : l.row ≤ length l.rows;
  segment_in_range : l.segment ≤ length l.segments;
}

abbrev pub decreases-loop-row : goal.decreases-loop-row
decreases-loop-row l = (length l.rows + length l.segments) - (l.row + l.segment)
