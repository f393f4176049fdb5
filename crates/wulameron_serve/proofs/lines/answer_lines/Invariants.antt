use Rattle.std.proofs.Common.{◌≡◌, List, ℕ, Some}
use Rattle.negotiate_serve.proofs.Answering.{SoFar}
use Rattle.wulameron_serve.specs.Lines.{AnswersWhileUsable, IsUsable}
use Rattle.wulameron_serve.proofs.lines.answer_lines.Given as goal

abbrev pub invariant-loop-number : goal.invariant-loop-number
invariant-loop-number g l = record {
  answered : (input : List ℕ) → g.R.Read.remaining l.fn.reader ≡ Some input
      → SoFar (AnswersWhileUsable g.A.Troubled.trouble (g.L.Lines.lines l.fn.lines)) l.fn.answerer input l.number (g.R.Read.remaining l.reader) (g.W.Write.contents l.fn.output) (g.W.Write.contents l.output) l.answerer;
  stands : g.L.Lines.stands l.answerer;
  usable : IsUsable (g.A.Troubled.trouble l.answerer);
}
