use Rattle.wulameron_trail.specs.Pieces.{StaysUnread}
use Rattle.wulameron_trail.proofs.reading.read_some.Given as goal

abbrev pub invariant-loop : goal.invariant-loop
invariant-loop g l = StaysUnread (g.R.Read.remaining l.fn.reader) (g.R.Read.remaining l.reader)
