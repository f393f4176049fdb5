use Rattle.std.proofs.Common.{take, string_bytes}
use Rattle.wulameron_place.specs.Texts.{RehearsesAll}
use Rattle.wulameron_place.proofs.texts.rehearse_nodes.Given as goal

abbrev pub invariant-loop-node : goal.invariant-loop-node
invariant-loop-node l = RehearsesAll (take l.node-index l.nodes) l.fn.world (string_bytes l.text) l.world
