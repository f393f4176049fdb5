use Rattle.std.proofs.Common.{◌≡◌, ◌++◌, map, take}
use Rattle.serde_json.specs.View.{view}
use Rattle.wulameron_view.specs.Data.{creation_data}
use Rattle.wulameron_view.proofs.list_json.add_creations.Given as goal

abbrev pub invariant-loop-creation : goal.invariant-loop-creation
invariant-loop-creation l = map view l.values.items ≡ map view l.fn.values.items ++ map creation_data (take l.creation-index l.creations)
