use Rattle.iceoryx2_journal.specs.Taking.{Reaches}
use Rattle.iceoryx2_journal.proofs.taking.take_over.Given as goal

abbrev pub invariant-loop : goal.invariant-loop
invariant-loop g l = Reaches l.nodes l.fn.is_lost l.is_lost l.fn.world l.world (g.L.Log.contents l.fn.log) (g.L.Log.contents l.log)
