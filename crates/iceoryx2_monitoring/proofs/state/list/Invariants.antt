use Rattle.iceoryx2_monitoring.specs.States.{IsRising}
use Rattle.iceoryx2_monitoring.proofs.state.list.Given as goal

abbrev pub invariant-loop-entry : goal.invariant-loop-entry
invariant-loop-entry g l = IsRising l.found.items
