use Rattle.std.proofs.Common.{None}
use Rattle.iceoryx2_journal.specs.Taking.{TakesOver}
use Rattle.iceoryx2_journal.proofs.snapshot.advance_all.Given as goal

abbrev pub invariant-loop : goal.invariant-loop
invariant-loop l = TakesOver l.nodes l.fn.world l.world None None
