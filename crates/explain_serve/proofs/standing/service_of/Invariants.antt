use Rattle.std.proofs.Common.{All, None, take}
use Rattle.explain_serve.specs.Standing.{IsFoundAt}
use Rattle.explain_serve.proofs.standing.service_of.Given as goal

abbrev pub invariant-loop-entry : goal.invariant-loop-entry
invariant-loop-entry l = All (λ e. IsFoundAt l.call e None) (take l.entry-index l.entries)
