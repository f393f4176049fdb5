-- After which refusals an open or create goes on.
use Rattle.std.specs.Prelude.{Bool, List, [], ◌∷◌}
use Rattle.std.specs.List.{list_any}
use Rattle.iceoryx2_rounds.specs.declared.pattern.OpenRefusal.{OpenRefusal}
use Rattle.iceoryx2_rounds.specs.declared.pattern.OpenRefusal.TheVariants as open_refusal
use Rattle.iceoryx2_rounds.specs.declared.pattern.CreateRefusal.{CreateRefusal}
use Rattle.iceoryx2_rounds.specs.declared.pattern.CreateRefusal.TheVariants as create_refusal

-- Of a pattern's open, and of its create.
pub record Retried (E C : Type 0) : Type 0 where
  pub of_open : E → Bool
  pub of_create : C → Bool

-- The same for every pattern: after an open of a service that is gone or going, or whose state may pass,
abbrev pub retried_of_open : List OpenRefusal
retried_of_open =
    open_refusal.DoesNotExist ∷ open_refusal.ServiceInCorruptedState ∷ open_refusal.IsMarkedForDestruction ∷ []

-- and after a create that somebody else was faster than, or that met such a state.
abbrev pub retried_of_create : List CreateRefusal
retried_of_create =
    create_refusal.AlreadyExists ∷ create_refusal.IsBeingCreatedByAnotherInstance ∷
    create_refusal.ServiceInCorruptedState ∷ []

-- A pattern tells its errors apart, and has one for each refusal: it goes on after those of these refusals.
abbrev pub retried_by : {E C : Type 0} → (E → E → Bool) → (C → C → Bool)
    → (OpenRefusal → E) → (CreateRefusal → C) → Retried E C
retried_by same_open same_create open_error create_error = record {
  of_open = λ error. list_any (λ refusal. same_open error (open_error refusal)) retried_of_open;
  of_create = λ error. list_any (λ refusal. same_create error (create_error refusal)) retried_of_create;
}
