use Rattle.std.proofs.Common.{◌≡◌, take}
use Rattle.std.specs.List.{flat_map}
use Rattle.std.specs.FinMap as map
use Rattle.wulameron_view.specs.Services.{creation_of}
use Rattle.wulameron_view.proofs.services.creations_of.Given as goal

abbrev pub invariant-loop-entry : goal.invariant-loop-entry
invariant-loop-entry l = l.creations.items ≡ flat_map (creation_of l.world) (take l.entry-index (map.entries l.world.rows))
