use Rattle.std.proofs.Common.{◌≡◌, ◌++◌, map, take}
use Rattle.wulameron_view.specs.ListTexts.{service_cells}
use Rattle.wulameron_view.proofs.list_text.add_services.Given as goal

abbrev pub invariant-loop-service : goal.invariant-loop-service
invariant-loop-service l = l.lines.items ≡ l.fn.lines.items ++ map (service_cells l.states) (take l.service-index l.services)
