-- Commands, one after the other.
use Rattle.std.specs.Prelude.{List, [], ◌∷◌}

-- Commands are carried out in order, each by one step from the state that the one before it left, and
-- each with a reply.
pub data CarriesOut {S C A : Type 0} (step : S → C → A → S → Type 0)
    : S → List C → List A → S → Type 0 where
  none : {s : S} → CarriesOut step s [] [] s
  first : {old mid new : S} {c : C} {a : A} {commands : List C} {replies : List A}
      → step old c a mid → CarriesOut step mid commands replies new
      → CarriesOut step old (c ∷ commands) (a ∷ replies) new
