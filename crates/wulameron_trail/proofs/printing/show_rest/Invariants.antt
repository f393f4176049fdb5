use Rattle.std.proofs.Common.{◌≡◌, ℕ, List, Some}
use Rattle.wulameron_trail.proofs.Shown.{SoFar}
use Rattle.wulameron_trail.proofs.printing.show_rest.Given as goal

abbrev pub invariant-loop : goal.invariant-loop
invariant-loop g l = (bytes : List ℕ) → g.R.Read.remaining l.fn.reader ≡ Some bytes
    → SoFar g.P.Shows.shows bytes l.fn.shown l.shown l.ahead (g.R.Read.remaining l.reader) (g.W.Write.contents l.fn.output) (g.W.Write.contents l.output)
