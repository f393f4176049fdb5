use Rattle.std.proofs.Common.{◌≡◌, ◌++◌, take, string_bytes}
use Rattle.std.specs.List.{flat_map}
use Rattle.wulameron_view.specs.Data.{creation_data, json_line}
use Rattle.wulameron_view.proofs.list_json.write_creations.Given as goal

abbrev pub invariant-loop-creation : goal.invariant-loop-creation
invariant-loop-creation l =
    string_bytes l.text ≡ string_bytes l.fn.text ++ flat_map (λ c. json_line (creation_data c)) (take l.creation-index l.creations)
