use Rattle.std.proofs.Common.{◌≤◌, take, length}
use Rattle.wulameron_trail.specs.Checking.{Reaches}
use Rattle.wulameron_trail.proofs.checker.walk.Given as goal

abbrev pub invariant-loop-place : goal.invariant-loop-place
invariant-loop-place l = record {
  within : l.at ≤ length l.entries;
  counted : l.place ≤ l.at;
  reaches : Reaches l.header (take l.at l.entries) l.place l.world;
}
