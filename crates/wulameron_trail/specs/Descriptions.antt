-- The description that bytes are the form of.
use Rattle.std.specs.Prelude.{ℕ, List, Option, Some, None}
use Rattle.iceoryx2_description.specs.Description.{Description}
use Rattle.iceoryx2_data.specs.Form.{IsForm}

-- The bytes are this description's form, or no description's.
abbrev pub IsRead : List ℕ → Option Description → Type 0
IsRead bytes (Some d) = IsForm d bytes
IsRead bytes None = (d : Description) → IsForm d bytes → ⊥
