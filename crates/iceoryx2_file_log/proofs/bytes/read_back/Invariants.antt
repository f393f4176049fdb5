use Rattle.std.proofs.Common.{◌≡◌, ◌≤◌, length}
use Rattle.std.specs.Prelude.{IfSome}
use Rattle.iceoryx2_file_log.proofs.ByteSteps.{SameUpTo}
use Rattle.iceoryx2_file_log.proofs.bytes.read_back.Given as goal

abbrev pub invariant-loop : goal.invariant-loop
invariant-loop g l = (l.at ≤ length l.bytes) × IfSome (g.M.Medium.known l.medium) (SameUpTo l.at l.bytes)
    × (g.M.Medium.known l.medium ≡ g.M.Medium.known l.fn.medium)
