use Rattle.std.proofs.Common.{take}
use Rattle.wulameron_view.specs.States.{AreStandings}
use Rattle.wulameron_view.proofs.states.standings.Given as goal

abbrev pub invariant-loop-status : goal.invariant-loop-status
invariant-loop-status l = AreStandings l.world (take l.status-index l.states) l.found.items
