-- Cells that stand in columns of a terminal.
use Rattle.std.specs.Prelude.{ℕ, ◌-◌, nat_le, nat_lt, Bool, true, false, List, [], ◌∷◌, ◌++◌, map, max, codes}
use Rattle.std.specs.Prelude.{Option, Some, None, if◌then◌else◌}
use Rattle.std.specs.Char.{encode_utf8}
use Rattle.std.specs.List.{repeat}
use Rattle.std.specs.Str.{chars}
use Rattle.unicode_width.specs.Width.{char_width, str_width}

-- how many columns of a terminal a text takes
unfoldable pub columns : List ℕ → ℕ
columns text = str_width false (chars text)

unfoldable pub spaces : ℕ → List ℕ
spaces n = repeat n (codes " ")

-- a cell with as many spaces after it as its column is wider
abbrev pub padded : (width : ℕ) → List ℕ → List ℕ
padded width cell = cell ++ spaces (width - columns cell)

abbrev pub greatest : List ℕ → ℕ
greatest [] = 0
greatest (n ∷ ns) = max n (greatest ns)

-- The width of a column: that of its widest cell.
unfoldable pub width_of : {A : Type 0} → (A → List ℕ) → List A → ℕ
width_of cell lines = greatest (map (λ line. columns (cell line)) lines)

-- ---- a cell that is too wide

abbrev pub columns_or_none : Option ℕ → ℕ
columns_or_none None = 0
columns_or_none (Some n) = n

abbrev pub character_columns : ℕ → ℕ
character_columns c = columns_or_none (char_width false c)

abbrev pub ellipsis : List ℕ
ellipsis = encode_utf8 0x2026

-- the first characters as long as they take at most so many columns, and an ellipsis in place of the others
unfoldable pub front : (width : ℕ) → List ℕ → List ℕ
front width [] = []
front width (c ∷ cs) =
    if nat_lt width (character_columns c) then ellipsis
    else encode_utf8 c ++ front (width - character_columns c) cs

-- A cell that takes at most so many columns: itself, or a front of it.
abbrev pub cut : (width : ℕ) → List ℕ → List ℕ
cut width cell = if nat_le (columns cell) width then cell else front (width - 1) (chars cell)

-- ---- colours

-- in red on a terminal, where it has something
abbrev pub red : Bool → List ℕ → List ℕ
red false text = text
red true [] = []
red true (c ∷ cs) = codes "\u{1b}[31m" ++ ((c ∷ cs) ++ codes "\u{1b}[0m")
