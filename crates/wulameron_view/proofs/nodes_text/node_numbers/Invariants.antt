use Rattle.std.proofs.Common.{◌≡◌, ◌++◌, take, string_bytes}
use Rattle.std.specs.List.{flat_map}
use Rattle.wulameron_view.specs.Nodes.{number_line}
use Rattle.wulameron_view.proofs.nodes_text.node_numbers.Given as goal

abbrev pub invariant-loop-found : goal.invariant-loop-found
invariant-loop-found l =
    string_bytes l.text ≡ string_bytes l.fn.text ++ flat_map number_line (take l.found-index l.nodes)
