-- What a leaf of a line stands for: the name of a service, a key, a value of one, or the name of a type.
use Rattle.std.specs.Prelude.{ℕ, ◌≡◌, ◌≢◌, ◌≤◌, ◌-◌, ◌==◌, ◌&&◌, Bool, Option, Some, None, List, [], ◌∷◌, codes, bytes_eq}
use Rattle.std.specs.Prelude.{if◌then◌else◌}
use Rattle.std.specs.Char.{is_digit}
use Rattle.std.specs.Str.{IsUtf8}
use Rattle.percent_encoding.specs.Percent.{percent_encode, percent_decode}
use Rattle.negotiate_lines.specs.declared.leaf.Form.{Form}
use Rattle.negotiate_lines.specs.declared.leaf.Form.TheVariants as form
use Rattle.negotiate_lines.specs.declared.leaf.TheConstants.{LEAF_ESCAPES}

-- How many hexadecimal digits are awaited behind a byte, where so many are before it. None where it is no digit.
abbrev pub digits_after : ℕ → ℕ → Option ℕ
digits_after digits b =
    if digits == 0 then Some (if b == 37 then 2 else 0)
    else if is_digit b 16 then Some (digits - 1) else None

-- what stands behind goes on, where so many digits are awaited
unfoldable pub go_on : ℕ → List ℕ → Bool
go_on digits [] = digits == 0
go_on digits (b ∷ rest) =
    if digits == 0 then go_on (if b == 37 then 2 else 0) rest else (is_digit b 16 && go_on (digits - 1) rest)

-- each `%` stands before two hexadecimal digits
abbrev pub are_whole : List ℕ → Bool
are_whole word = go_on 0 word

-- bytes as a leaf: what parts words, terms and values is escaped, and none are `%`
unfoldable pub leaf_of : List ℕ → List ℕ
leaf_of [] = codes "%"
leaf_of (b ∷ bytes) = percent_encode LEAF_ESCAPES (b ∷ bytes)

-- the bytes that a leaf stands for, where its escapes are whole
abbrev pub bytes_of : List ℕ → Option (List ℕ)
bytes_of leaf =
    if bytes_eq leaf (codes "%") then Some [] else if are_whole leaf then Some (percent_decode leaf) else None

-- What a leaf is in a line of this form, and the text that it stands for: itself, or what is escaped in it.
abbrev pub IsLeaf : Form → (leaf text : List ℕ) → Type 0
IsLeaf form.Plain leaf text = leaf ≡ text
IsLeaf form.Escaped leaf text = (bytes_of leaf ≡ Some text) × IsUtf8 text

-- A byte that parts no words, terms or values: printable ASCII, and no blank, comma, colon or equals sign.
pub record IsPlain (b : ℕ) : Type 0 where
  pub printable : 33 ≤ b
  pub ascii : b ≤ 126
  pub no_comma : b ≢ 44
  pub no_colon : b ≢ 58
  pub no_equals_sign : b ≢ 61
