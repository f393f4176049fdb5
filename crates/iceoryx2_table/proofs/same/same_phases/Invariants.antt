use Rattle.std.proofs.Common.{◌≡◌, ◌+◌, ◌-◌, ◌≤◌, length, drop}
use Rattle.std.specs.Cmp.Lexicographic.{pointwise}
use Rattle.iceoryx2_table.specs.Comparing.{same_place, settled_phases}
use Rattle.iceoryx2_table.proofs.same.same_phases.Given as goal

abbrev pub invariant-loop-mine : goal.invariant-loop-mine
invariant-loop-mine l = record {
  same : pointwise same_place (settled_phases (drop l.mine l.ours)) (settled_phases (drop l.other l.theirs)) ≡ pointwise same_place (settled_phases l.ours) (settled_phases l.theirs);
  ours_in_range : l.mine ≤ length l.ours;
  theirs_in_range : l.other ≤ length l.theirs;
}

abbrev pub decreases-loop-mine : goal.decreases-loop-mine
decreases-loop-mine l = (length l.ours + length l.theirs) - (l.mine + l.other)
