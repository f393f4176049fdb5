use Rattle.std.proofs.Common.{◌≡◌, ◌++◌, map, take}
use Rattle.serde_json.specs.View.{view}
use Rattle.wulameron_view.specs.Data.{service_data}
use Rattle.wulameron_view.proofs.list_json.add_services.Given as goal

abbrev pub invariant-loop-service : goal.invariant-loop-service
invariant-loop-service l = map view l.values.items ≡ map view l.fn.values.items ++ map (service_data l.states) (take l.service-index l.services)
