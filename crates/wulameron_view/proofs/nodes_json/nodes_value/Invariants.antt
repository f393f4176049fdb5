use Rattle.std.proofs.Common.{◌≡◌, map, take}
use Rattle.serde_json.specs.View.{view}
use Rattle.wulameron_view.specs.Nodes.{node_data}
use Rattle.wulameron_view.proofs.nodes_json.nodes_value.Given as goal

abbrev pub invariant-loop-node : goal.invariant-loop-node
invariant-loop-node l = map view l.values.items ≡ map node_data (take l.node-index l.nodes)
