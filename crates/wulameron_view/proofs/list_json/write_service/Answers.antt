use Rattle.std.proofs.Common.{◌∙◌, ap}
use Rattle.serde_json.specs.Written.{has_float}
use Rattle.wulameron_view.proofs.Floats.{services}
use Rattle.wulameron_view.proofs.list_json.write_service.Goals as goal

pub write_value-requires : goal.write_value-requires
write_value-requires c = ap has_float c.in_ok-value.ensures ∙ services c.args.states.now c.args.service.now
