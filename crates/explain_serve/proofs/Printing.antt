-- What the program prints behind its head.
use Rattle.std.proofs.Common.{◌≡◌, ℕ, List, ◌++◌, Option, Result, Ok, Err, refl, subst}
use Rattle.std.specs.Io.KnownBytes.{Appends}
use Rattle.std.proofs.KnownBytes.{Appends-trans}
use Rattle.negotiate_serve.specs.declared.ending.Ending.{Ending}
use Rattle.negotiate_serve.specs.declared.ending.ServeError.{ServeError}
use Rattle.negotiate_serve.specs.Outputs.{IsFrontOf, Writes}
use Rattle.negotiate_serve.specs.Served.{ServesBy}
use Rattle.explain_serve.specs.declared.format.Format.{Format}
use Rattle.explain_serve.specs.Answered.{first_state, Explains, ExplainsInput, explained, not_begun}
use Rattle.explain_serve.specs.Formats.{head_of}

module _ (format : Format) (input head : List ℕ) (old new : Option (List ℕ)) (is : head ≡ head_of format) where
  pub head_cut : (f : ServeError) → Writes head (Err f) old new → ExplainsInput format (Err f) input old new
  head_cut f holds = not_begun f holds.1 refl holds.0 (subst (λ text. IsFrontOf holds.1 text) is holds.2) holds.3

  pub behind_head : (mid : Option (List ℕ)) (ended : Result Ending ServeError) → Writes head (Ok tt) old mid → (unread : List ℕ) × ServesBy (Explains format) first_state ended input unread mid new
      → ExplainsInput format ended input old new
  behind_head mid ended holds served = explained served.1.output served.0 served.1.transcript
      (subst (λ text. Appends old new (text ++ served.1.output)) is (Appends-trans old mid new head served.1.output holds served.1.written))
