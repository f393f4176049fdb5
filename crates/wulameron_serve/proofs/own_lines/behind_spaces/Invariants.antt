use Rattle.std.proofs.Common.{◌≡◌, ◌++◌, ℕ, List, length}
use Rattle.std.specs.List.{All}
use Rattle.wulameron_serve.proofs.own_lines.behind_spaces.Given as goal

abbrev pub invariant-loop-first : goal.invariant-loop-first
invariant-loop-first l = (front : List ℕ) × (l.fn.text ≡ front ++ l.rest) × All (λ byte. byte ≡ 32) front

abbrev pub decreases-loop-first : goal.decreases-loop-first
decreases-loop-first l = length l.rest
