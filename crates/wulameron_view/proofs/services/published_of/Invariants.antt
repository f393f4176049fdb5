use Rattle.std.proofs.Common.{take}
use Rattle.std.specs.FinMap as map
use Rattle.wulameron_view.specs.Services.{AreServices}
use Rattle.wulameron_view.proofs.services.published_of.Given as goal

abbrev pub invariant-loop-entry : goal.invariant-loop-entry
invariant-loop-entry l = AreServices l.world (take l.entry-index (map.entries l.world.rows)) l.found.items
