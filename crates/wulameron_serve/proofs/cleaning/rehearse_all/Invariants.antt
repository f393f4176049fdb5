use Rattle.std.proofs.Common.{take}
use Rattle.wulameron_serve.specs.Cleaning.{RehearsesSum}
use Rattle.wulameron_serve.proofs.cleaning.rehearse_all.Given as goal

abbrev pub invariant-loop-node : goal.invariant-loop-node
invariant-loop-node l = RehearsesSum (take l.node-index l.nodes) l.fn.world l.given l.world
