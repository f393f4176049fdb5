-- What a program is told that starts the session of before.
use Rattle.std.specs.Prelude.{ℕ, List, [], ◌∷◌, ◌++◌, codes, replicate}

abbrev pub gone_line : List ℕ
gone_line = codes "wulameron: there is no command session; start wulameron run --escaped, and write lines to it\n"

-- A frame of another version than a library of before has: two numbers of four bytes, the lowest byte first, and then
-- zeros.
abbrev pub other_version : List ℕ
other_version = (0 ∷ 0 ∷ 0 ∷ 0 ∷ []) ++ (2 ∷ 0 ∷ 0 ∷ 0 ∷ []) ++ replicate 40 0
