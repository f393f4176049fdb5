use Rattle.std.proofs.Common.{◌≡◌, ◌++◌, take, string_bytes}
use Rattle.std.specs.List.{flat_map}
use Rattle.wulameron_view.specs.Data.{json_line}
use Rattle.wulameron_view.specs.Nodes.{node_data}
use Rattle.wulameron_view.proofs.nodes_json.nodes_json_lines.Given as goal

abbrev pub invariant-loop-node : goal.invariant-loop-node
invariant-loop-node l =
    string_bytes l.text ≡ string_bytes l.fn.text ++ flat_map (λ n. json_line (node_data n)) (take l.node-index l.nodes)
