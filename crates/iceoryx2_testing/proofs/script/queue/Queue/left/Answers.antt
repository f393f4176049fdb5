use Rattle.std.proofs.Common.{arith}
use Rattle.std.proofs.lemmas.Grind.{common_steps}
use Rattle.iceoryx2_testing.proofs.script.queue.Queue.left.Goals as goal

pub returns : goal.returns
returns c = grind (arith, common_steps)
