-- Which attribute an open didn't find.
use Rattle.std.specs.Prelude.{ℕ, List, [], ◌++◌, Option, Some, None, if◌then◌else◌, bytes_eq, codes}
use Rattle.std.specs.List.{flat_map}
use Rattle.iceoryx2_attribute.specs.Attributes.{Pair}
use Rattle.iceoryx2_attribute.specs.Requirements.{Requirements, first_lacking}

-- a pair behind this word, if it is of this key
abbrev pub pair_line : (word key : List ℕ) → Pair → List ℕ
pair_line word key p =
    if bytes_eq p.key key
    then codes "  " ++ (word ++ (codes " attribute " ++ (key ++ (codes ":" ++ (p.value ++ codes "\n"))))) else []

abbrev pub pair_lines : (word key : List ℕ) → List Pair → List ℕ
pair_lines word key pairs = flat_map (pair_line word key) pairs

unfoldable pub first_line : List ℕ → List ℕ
first_line key = codes "  first lacking attribute: " ++ (key ++ codes "\n")

-- of this key, what is required and what there is
abbrev pub lacking_key_lines : Requirements → List Pair → Option (List ℕ) → List ℕ
lacking_key_lines required offered None = []
lacking_key_lines required offered (Some key) =
    first_line key ++ (pair_lines (codes "required") key required.pairs ++ pair_lines (codes "offered") key offered)

-- The first key that attributes lack, where they lack one.
abbrev pub lacking_lines : Requirements → List Pair → List ℕ
lacking_lines required offered = lacking_key_lines required offered (first_lacking required offered)
