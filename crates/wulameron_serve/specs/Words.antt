-- How the words of a call stand in its line, of which the leaves are escaped.
use Rattle.std.specs.Prelude.{◌≡◌, ◌⊎◌, ℕ, List, [], ◌∷◌, codes}
use Rattle.percent_encoding.specs.Percent.{percent_encode}
use Rattle.wulameron_serve.specs.declared.words.TheConstants.{WORD_ESCAPES}

-- A word as a term: what parts words is escaped, and `%`; and no bytes are `%`.
unfoldable pub word_of : List ℕ → List ℕ
word_of [] = codes "%"
word_of (b ∷ bytes) = percent_encode WORD_ESCAPES (b ∷ bytes)

-- `=`, `:` or `,`: by these a term is cut into what it names and its leaves
abbrev pub PartsLeaves : ℕ → Type 0
PartsLeaves byte = (byte ≡ 61) ⊎ (byte ≡ 58) ⊎ (byte ≡ 44)
