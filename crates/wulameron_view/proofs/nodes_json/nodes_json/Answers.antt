use Rattle.std.proofs.Common.{◌∙◌, ap}
use Rattle.serde_json.specs.Written.{has_float}
use Rattle.wulameron_view.proofs.Floats.{nodes_free}
use Rattle.wulameron_view.proofs.nodes_json.nodes_json.Goals as goal

pub write_value-requires : goal.write_value-requires
write_value-requires c = ap has_float c.in_ok-value.ensures ∙ nodes_free c.args.nodes.now
