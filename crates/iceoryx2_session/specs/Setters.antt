-- The setters of a builder, one after the other.
use Rattle.std.specs.Prelude.{List, [], ◌∷◌}

-- a builder after each setter, in order
unfoldable pub with_settings : {B X : Type 0} → (B → X → B) → B → List X → B
with_settings with_setting b [] = b
with_settings with_setting b (x ∷ xs) = with_settings with_setting (with_setting b x) xs
