-- Builders that take what they would create.
use Rattle.std.specs.Prelude.{◌≡◌, ℕ, None, Ok}
use Rattle.iceoryx2_rounds.specs.PatternRules.{PatternRules}
use Rattle.iceoryx2_rounds.specs.Verdict.{verdict}
use Rattle.iceoryx2_rounds.specs.declared.caller.Caller.{Caller}
use Rattle.iceoryx2_rounds.specs.Creates.{description_of}

-- What a create of the one meaning publishes fits the other one, and its requirement is met, whichever node creates.
pub record AcceptsOwn {E C : Type 0} (creating opening : PatternRules E C) (caller : Caller) : Type 0 where
  pub fits : (node : ℕ) → opening.misfit (description_of creating (record caller { node = node })) ≡ None
  pub accepted : (node : ℕ)
      → verdict (opening.requirement (description_of creating (record caller { node = node }))) ≡ Ok tt
