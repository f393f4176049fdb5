use Rattle.std.proofs.Common.{List, ℕ, inl, refl, subst}
use Rattle.wulameron_trail.specs.Checking.{IsNoHeader}
use Rattle.wulameron_trail.proofs.checker.check.Goals as goal

pub returns-in-Err : goal.returns-in-Err
returns-in-Err c = inl (record {
  error = c.in-Err.error;
  fault = subst (λ (l : List ℕ). IsNoHeader l c.in-Err.error) c.parted.ensures.front c.in-Err.ensures.fault;
  is = refl;
})
