-- What is written where there is no memory for a line.
use Rattle.std.proofs.Common.{◌≡◌, List, ℕ, Option, Result, Ok, Err, subst}
use Rattle.negotiate_serve.specs.declared.ending.ServeError.{ServeError}
use Rattle.negotiate_serve.specs.declared.ending.ServeError.TheVariants as failure
use Rattle.negotiate_serve.specs.Outputs.{Writes}
use Rattle.wulameron_place.specs.Troubles.{WritesNoMemory, failed, no_memory_line, whole}

module _ (r : Result (Unit {0}) ServeError) (old new : Option (List ℕ)) (writes : Writes no_memory_line r old new) where
  -- its line is whole
  pub told_whole : (done : Unit {0}) → r ≡ Ok done → WritesNoMemory failure.OutOfMemory old new
  told_whole done is = whole (subst (λ told. Writes no_memory_line told old new) is writes)

  -- or the writer failed
  pub told_front : (f : ServeError) → r ≡ Err f → WritesNoMemory f old new
  told_front f is = failed (subst (λ told. Writes no_memory_line told old new) is writes)
