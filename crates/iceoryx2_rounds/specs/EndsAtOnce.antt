-- Refusals that come in the same way in each round, and so end an open or create.
use Rattle.std.specs.Prelude.{◌≡◌, false, Some, Err}
use Rattle.iceoryx2_description.specs.Description.{Description}
use Rattle.iceoryx2_rounds.specs.declared.pattern.OpenRefusal.TheVariants as open_refusal
use Rattle.iceoryx2_rounds.specs.declared.pattern.CreateRefusal.TheVariants as create_refusal
use Rattle.iceoryx2_rounds.specs.PatternRules.{PatternRules}
use Rattle.iceoryx2_rounds.specs.Verdict.{verdict}
use Rattle.iceoryx2_rounds.specs.Retried.{Retried}

-- What a table that nobody else uses refuses isn't tried again.
pub record EndsAtOnce {E C : Type 0} (retried : Retried E C) (making opening : PatternRules E C) : Type 0 where
  -- a requirement that isn't met, no place, no number, out of memory
  pub not_accepted : (d : Description) (error : E) → verdict (opening.requirement d) ≡ Err error
      → retried.of_open error ≡ false
  pub no_place : retried.of_open (opening.open_refusal open_refusal.ExceedsMaxNumberOfNodes) ≡ false
  pub not_opened : retried.of_open (opening.open_refusal open_refusal.InternalFailure) ≡ false
  pub opened_without_memory : retried.of_open (opening.open_refusal open_refusal.OutOfMemory) ≡ false
  -- the history rule, a clock fault or no number, out of memory
  pub forbidden : (error : C) → making.settings_refusal ≡ Some error → retried.of_create error ≡ false
  pub not_created : retried.of_create (making.create_refusal create_refusal.InternalFailure) ≡ false
  pub created_without_memory : retried.of_create (making.create_refusal create_refusal.OutOfMemory) ≡ false
