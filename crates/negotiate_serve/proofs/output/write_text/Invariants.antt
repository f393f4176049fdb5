use Rattle.std.proofs.Common.{length}
use Rattle.negotiate_serve.proofs.Written.{HasTaken}
use Rattle.negotiate_serve.proofs.output.write_text.Given as goal

abbrev pub invariant-loop-rest : goal.invariant-loop-rest
invariant-loop-rest g l = HasTaken l.text l.rest (g.W.Write.contents l.fn.output) (g.W.Write.contents l.output)

abbrev pub decreases-loop-rest : goal.decreases-loop-rest
decreases-loop-rest g l = length l.rest
