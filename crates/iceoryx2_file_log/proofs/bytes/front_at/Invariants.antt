use Rattle.std.proofs.Common.{◌≡◌}
use Rattle.std.specs.Prelude.{IfSome}
use Rattle.iceoryx2_file_log.specs.Handle.{ReadsOn}
use Rattle.iceoryx2_file_log.specs.Bytes.{Reading}
use Rattle.iceoryx2_file_log.proofs.bytes.front_at.Given as goal

abbrev pub invariant-loop : goal.invariant-loop
invariant-loop g l = ReadsOn l.fn.cursor l.cursor × IfSome (g.M.Medium.known l.medium) (Reading l.cursor)
    × (g.M.Medium.known l.medium ≡ g.M.Medium.known l.fn.medium)
