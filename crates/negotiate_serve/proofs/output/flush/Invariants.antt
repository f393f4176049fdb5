use Rattle.std.specs.Io.KnownBytes.{Keeps}
use Rattle.negotiate_serve.proofs.output.flush.Given as goal

abbrev pub invariant-loop : goal.invariant-loop
invariant-loop g l = Keeps (g.W.Write.contents l.fn.output) (g.W.Write.contents l.output)
