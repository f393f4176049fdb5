-- What a pattern's builder asks, and how its calls name what goes wrong.
use Rattle.std.specs.Prelude.{◌<◌, Bool, List, Option}
use Rattle.iceoryx2_attribute.specs.Attributes.{Pair}
use Rattle.iceoryx2_description.specs.Description.{Description, max_nodes_of}
use Rattle.iceoryx2_description.specs.Span.{Span}
use Rattle.iceoryx2_description.specs.declared.description.MessagingPattern.{MessagingPattern}
use Rattle.iceoryx2_rounds.specs.Verdict.{Clause}
use Rattle.iceoryx2_rounds.specs.declared.pattern.OpenRefusal.{OpenRefusal}
use Rattle.iceoryx2_rounds.specs.declared.pattern.CreateRefusal.{CreateRefusal}

-- E are the errors of its open, C those of its create.
pub record PatternRules (E C : Type 0) : Type 0 where
  -- what its errors are of the refusals that every pattern has
  pub open_refusal : OpenRefusal → E
  pub create_refusal : CreateRefusal → C
  -- why a service of the right hash isn't opened that is of another pattern or of other types
  pub misfit : Description → Option E
  -- what an existing service has to meet, in order
  pub requirement : Description → List (Clause E)
  -- whether its own settings forbid a create
  pub settings_refusal : Option C
  -- whether a create needs the time, and what it publishes
  pub needs_clock : Bool
  pub attributes : List Pair
  pub published : Span → MessagingPattern

-- What a create publishes is for one node or more.
abbrev pub TakesNodes : {E C : Type 0} → PatternRules E C → Type 0
TakesNodes m = (now : Span) → 0 < max_nodes_of (m.published now)
