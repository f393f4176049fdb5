use Rattle.std.proofs.Common.{◌≡◌, ◌++◌, take, string_bytes}
use Rattle.std.specs.List.{flat_map}
use Rattle.wulameron_view.specs.Nodes.{node_line}
use Rattle.wulameron_view.proofs.nodes_text.nodes_text.Given as goal

abbrev pub invariant-loop-node : goal.invariant-loop-node
invariant-loop-node l =
    string_bytes l.text ≡ string_bytes l.fn.text ++ flat_map (node_line l.is_coloured) (take l.node-index l.nodes)
