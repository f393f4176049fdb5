-- Which services are listed.
use Rattle.std.specs.Prelude.{◌≡◌, ℕ, Bool, true, ◌&&◌, ◌||◌, List, [], ◌∷◌, Option, Some, None, nat_eq, filter}
use Rattle.std.specs.Prelude.{if◌then◌else◌, is_none, option_map}
use Rattle.std.specs.List.{starts_with}
use Rattle.wulameron_arguments.specs.declared.asked.Filter.{Filter}
use Rattle.wulameron_arguments.specs.declared.asked.Pattern.{Pattern}
use Rattle.iceoryx2_description.specs.declared.description.MessagingPattern.{MessagingPattern}
use Rattle.wulameron_view.specs.Patterns.{is_of}
use Rattle.wulameron_view.specs.declared.services.Creation.{Creation}
use Rattle.wulameron_view.specs.declared.services.Service.{Service}
use Rattle.wulameron_view.specs.declared.services.Services.{Services}

-- the part stands somewhere in the text
unfoldable pub has_part : (text : List ℕ) → (part : List ℕ) → Bool
has_part [] part = starts_with nat_eq [] part
has_part (c ∷ cs) part = starts_with nat_eq (c ∷ cs) part || has_part cs part

abbrev pub is_named : (name : List ℕ) → (part : Option (List ℕ)) → Bool
is_named name None = true
is_named name (Some part) = has_part name part

abbrev pub is_of_any : Option Pattern → MessagingPattern → Bool
is_of_any None p = true
is_of_any (Some wanted) p = is_of wanted p

-- its name has the text in it, and it is of the pattern, as far as these are asked for
abbrev pub passes : Filter → Service → Bool
passes f s =
    is_named s.description.name (option_map (λ text. text.now) f.text) && is_of_any f.pattern s.description.pattern

-- neither a text nor a pattern is asked for
abbrev pub is_open : Filter → Bool
is_open f = is_none f.text && is_none f.pattern

-- Those of all that are listed. Of a service that is being created neither its name nor its pattern is known.
pub record AreThose (f : Filter) (all those : Services) : Type 0 where
  pub published : those.published.items ≡ filter (passes f) all.published.items
  pub creations : those.creations.items ≡ (if is_open f then all.creations.items else [])
