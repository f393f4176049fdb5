use Rattle.std.proofs.Common.{take}
use Rattle.iceoryx2_world.specs.Batches.{IsBatch}
use Rattle.iceoryx2_large_table.proofs.world.unrecorded.WorldOverOwnParts.take_all.Given as goal

abbrev pub invariant-loop-step : goal.invariant-loop-step
invariant-loop-step g l = IsBatch (l.fn.self, l.fn.skipped) (take l.step-index l.batch) (l.self, l.count)
