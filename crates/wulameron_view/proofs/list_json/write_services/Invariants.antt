use Rattle.std.proofs.Common.{◌≡◌, ◌++◌, take, string_bytes}
use Rattle.std.specs.List.{flat_map}
use Rattle.wulameron_view.specs.Data.{json_line, service_data}
use Rattle.wulameron_view.proofs.list_json.write_services.Given as goal

abbrev pub invariant-loop-service : goal.invariant-loop-service
invariant-loop-service l =
    string_bytes l.text ≡ string_bytes l.fn.text ++ flat_map (λ s. json_line (service_data l.states s)) (take l.service-index l.services)
