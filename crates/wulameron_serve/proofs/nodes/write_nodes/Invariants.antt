use Rattle.std.proofs.Common.{◌≡◌, ◌++◌, take, string_bytes}
use Rattle.std.specs.List.{flat_map}
use Rattle.wulameron_serve.specs.Nodes.{node_word}
use Rattle.wulameron_serve.proofs.nodes.write_nodes.Given as goal

abbrev pub invariant-loop-found : goal.invariant-loop-found
invariant-loop-found l =
    string_bytes l.text ≡ string_bytes l.fn.text ++ flat_map node_word (take l.found-index l.nodes)
