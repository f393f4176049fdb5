use Rattle.std.proofs.Common.{◌≡◌, ◌++◌, take, string_bytes}
use Rattle.std.specs.List.{flat_map}
use Rattle.wulameron_view.specs.ListTexts.{service_name}
use Rattle.wulameron_view.proofs.list_text.write_names.Given as goal

abbrev pub invariant-loop-service : goal.invariant-loop-service
invariant-loop-service l =
    string_bytes l.text ≡ string_bytes l.fn.text ++ flat_map service_name (take l.service-index l.services)
