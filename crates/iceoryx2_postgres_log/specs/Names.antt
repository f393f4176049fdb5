-- The name of a log.
use Rattle.std.specs.Prelude.{ℕ, ◌≤◌, Bool, ◌||◌, ◌==◌, List, [], ◌∷◌, length, All, IsTrue}
use Rattle.std.specs.Char.{is_ascii_alphanumeric}

abbrev pub is_name_byte : ℕ → Bool
is_name_byte b = is_ascii_alphanumeric b || (b == 46) || (b == 95) || (b == 45)

-- `[A-Za-z0-9][A-Za-z0-9._-]{0,62}`, from its first byte to its last
abbrev pub IsLogName : List ℕ → Type 0
IsLogName [] = ⊥
IsLogName (first ∷ rest) =
    IsTrue (is_ascii_alphanumeric first) × (length rest ≤ 62) × All (λ b. IsTrue (is_name_byte b)) rest
