-- How a user's text stands in a line: no control character is printed as it is.
use Rattle.std.specs.Prelude.{ℕ, List, [], ◌∷◌, ◌++◌, codes, ◌||◌, nat_eq, nat_lt, if◌then◌else◌, length, take}
use Rattle.std.specs.List.{flat_map}
use Rattle.std.specs.Char.{encode_utf8}
use Rattle.std.specs.Str.{chars}
use Rattle.hex.specs.Hex.{encode_lower}

-- characters that have a letter of their own: a tab, a line's end, a carriage return and the backslash
abbrev pub letters : List (ℕ × List ℕ)
letters = (9, codes "\\t") ∷ (10, codes "\\n") ∷ (13, codes "\\r") ∷ (92, codes "\\\\") ∷ []

-- any other: C0 and DEL by two digits, C1 by its number, and what is no control as it is
abbrev pub by_number : ℕ → List ℕ
by_number c =
    if nat_lt c 32 || nat_eq c 127 then codes "\\x" ++ encode_lower (c ∷ [])
    else if nat_lt c 128 then encode_utf8 c
    else if nat_lt c 160 then codes "\\u{" ++ (encode_lower (c ∷ []) ++ codes "}")
    else encode_utf8 c

-- by the row of this character, or by its number
abbrev pub written : List (ℕ × List ℕ) → ℕ → List ℕ
written [] c = by_number c
written (row ∷ rows) c = if nat_eq c row.0 then row.1 else written rows c

abbrev pub escaped_character : ℕ → List ℕ
escaped_character c = written letters c

unfoldable pub escaped : List ℕ → List ℕ
escaped text = flat_map escaped_character (chars text)

-- The first so many of some characters, and two full stops where there are more.
abbrev pub shown_front : ℕ → List ℕ → List ℕ
shown_front most characters =
    flat_map escaped_character (take most characters) ++ (if nat_lt most (length characters) then codes ".." else [])

-- a word of a line: at most 64 characters of it
unfoldable pub shown : List ℕ → List ℕ
shown word = shown_front 64 (chars word)
