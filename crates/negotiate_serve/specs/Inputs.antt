-- An input is lines.
use Rattle.std.specs.Prelude.{◌≡◌, ℕ, ◌==◌, Bool, true, false, List, [], ◌∷◌, ◌++◌, Option, Some, map, if◌then◌else◌}
use Rattle.negotiate_lines.specs.Lines.{without_last}

-- a byte in front of the first of these, which it begins where there is none
abbrev pub with_first : ℕ → List (List ℕ) → List (List ℕ)
with_first byte [] = (byte ∷ []) ∷ []
with_first byte (line ∷ lines) = (byte ∷ line) ∷ lines

-- what stands between the line feeds. Behind a line feed at the end there is nothing.
abbrev pub between_line_feeds : List ℕ → List (List ℕ)
between_line_feeds [] = []
between_line_feeds (byte ∷ bytes) =
    if byte == 10 then [] ∷ between_line_feeds bytes else with_first byte (between_line_feeds bytes)

-- the lines of an input: each ends at a line feed or at the end of the input, and one carriage return before that is
-- no part of it
abbrev pub lines_of : List ℕ → List (List ℕ)
lines_of input = map (without_last 13) (between_line_feeds input)

-- These are the first lines of an input, and the rest stands behind them.
pub record BeginsWith (input : List ℕ) (lines : List (List ℕ)) (rest : List ℕ) : Type 0 where
  pub front : List ℕ
  pub parts : input ≡ front ++ rest
  pub are : lines_of input ≡ lines ++ lines_of rest

-- The first line was read, if there is one, and what stands behind it is left.
abbrev pub ReadsLine : (input : List ℕ) → Bool → (line : List ℕ) → (left : Option (List ℕ)) → Type 0
ReadsLine input true line left = (rest : List ℕ) × BeginsWith input (line ∷ []) rest × (left ≡ Some rest)
ReadsLine input false line left = (input ≡ []) × (left ≡ Some [])
