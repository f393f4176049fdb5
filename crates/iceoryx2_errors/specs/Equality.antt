-- Equality by `==`.
use Rattle.std.specs.Prelude.{Bool, ◌≡◌, ◌↔◌, IsTrue}

-- two values are equal by `==` exactly if they are the same
abbrev pub IsEquality : {A : Type 0} → (A → A → Bool) → Type 0
IsEquality {A = A} equal = (a b : A) → IsTrue (equal a b) ↔ (a ≡ b)
