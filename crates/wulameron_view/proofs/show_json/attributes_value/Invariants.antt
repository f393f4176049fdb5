use Rattle.std.proofs.Common.{◌≡◌, map, take}
use Rattle.serde_json.specs.View.{view}
use Rattle.wulameron_view.specs.Data.{attribute_data}
use Rattle.wulameron_view.proofs.show_json.attributes_value.Given as goal

abbrev pub invariant-loop-pair : goal.invariant-loop-pair
invariant-loop-pair l = map view l.values.items ≡ map attribute_data (take l.pair-index l.pairs)
