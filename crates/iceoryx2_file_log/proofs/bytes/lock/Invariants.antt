use Rattle.std.proofs.Common.{◌≡◌}
use Rattle.iceoryx2_file_log.proofs.bytes.lock.Given as goal

abbrev pub invariant-loop-round : goal.invariant-loop-round
invariant-loop-round g l = g.M.Medium.known l.medium ≡ g.M.Medium.known l.fn.medium
