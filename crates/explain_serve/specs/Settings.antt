-- What an open required of settings, and what the service offers: in terms of a command's line.
use Rattle.std.specs.Prelude.{ℕ, Bool, true, false, List, [], ◌∷◌, ◌++◌, Option, Some, None, ◌&&◌, not}
use Rattle.std.specs.Prelude.{if◌then◌else◌, bytes_eq, codes, decimal}
use Rattle.std.specs.List.{list_any}
use Rattle.iceoryx2_description.specs.Span.{Span}
use Rattle.iceoryx2_errors.specs.declared.refusal.Reason.{Reason}
use Rattle.iceoryx2_errors.specs.contracts.refusal.ReasonPartialEq.TheImpl as same_reason
use Rattle.explain_serve.specs.declared.settings.value.Value.{Value}
use Rattle.explain_serve.specs.declared.settings.value.Value.TheVariants as value

-- ---- the text of a value: the value of a term that means it

abbrev pub truth_text : Bool → List ℕ
truth_text true = codes "true"
truth_text false = codes "false"

abbrev pub none_or : {A : Type 0} → (A → List ℕ) → Option A → List ℕ
none_or text None = codes "none"
none_or text (Some a) = text a

-- its two numbers, around a comma
abbrev pub span_text : Span → List ℕ
span_text s = decimal s.seconds ++ (codes "," ++ decimal s.nanoseconds)

abbrev pub value_text : Value → List ℕ
value_text (value.Number n) = decimal n
value_text (value.Truth b) = truth_text b
value_text (value.Event id) = none_or decimal id
value_text (value.Time span) = none_or span_text span

-- ---- a line of what is required and offered

abbrev pub offer_line : (name required offered : List ℕ) → List ℕ
offer_line name required offered =
    codes "  required " ++ (name ++ (codes " " ++ (required ++ (codes ", offered " ++ (offered ++ codes "\n")))))

-- ---- what a setter requires

-- A setter beside what is there: the name of the setting, why an open is refused that doesn't find what is set, what is
-- set, and what is there.
pub record Compared : Type 0 where
  pub name : List ℕ
  pub reason : Reason
  pub required : Value
  pub offered : Value

abbrev pub value_line : Compared → List ℕ
value_line c = offer_line c.name (value_text c.required) (value_text c.offered)

-- whether it is of the setting with this name
abbrev pub is_of_name : List ℕ → Option Compared → Bool
is_of_name name None = false
is_of_name name (Some c) = bytes_eq c.name name

-- Of the settings with this reason that no later setter sets again, a line each. S are the setters of a pattern's
-- builder, of which those of types set no setting, and X is what there is.
module _ {S X : Type 0} (compared : S → X → Option Compared) (there : X) where
  abbrev pub is_set_again : (name : List ℕ) → List S → Bool
  is_set_again name later = list_any (λ other. is_of_name name (compared other there)) later

  abbrev pub is_required : Reason → Compared → List S → Bool
  is_required reason c later = same_reason.ghosts.eq c.reason reason && not (is_set_again c.name later)

  abbrev pub setting_line : Reason → Option Compared → List S → List ℕ
  setting_line reason None later = []
  setting_line reason (Some c) later = if is_required reason c later then value_line c else []

  abbrev pub required_lines : Reason → List S → List ℕ
  required_lines reason [] = []
  required_lines reason (setter ∷ later) =
      setting_line reason (compared setter there) later ++ required_lines reason later
