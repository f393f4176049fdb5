-- Which word may have been meant by a term that is none.
use Rattle.std.specs.Prelude.{ℕ, ◌≡◌, ◌<◌, ◌≤◌, ◌+◌, ◌&&◌, Bool, true, false, List, ◌∷◌, ◌++◌, length, Option, Some, None}
use Rattle.std.specs.Prelude.{nat_eq, nat_le, nat_lt, option_map}
use Rattle.std.specs.Borrow.{Bor}
use Rattle.std.specs.Str.{chars}
use Rattle.strsim.specs.Edits.{levenshtein_row}
use Rattle.iceoryx2_access.specs.Run.{Each}

-- how many characters are put in, taken out or replaced to come from a term to a word
abbrev pub distance : (term word : List ℕ) → ℕ
distance term word = levenshtein_row nat_eq (chars term) (chars word) (length (chars word))

-- few edits: at most 2, and fewer than half of the word's bytes. A term of more than 64 bytes is near to no word.
abbrev pub are_near : (term word : List ℕ) → Bool
are_near term word =
    nat_le (length term) 64 && (nat_le (distance term word) 2
    && nat_lt (distance term word + distance term word) (length word))

-- It is one of the words, and near. Of the words that are near those before it are farther, and no other is nearer.
pub record IsNearest (term : List ℕ) (words : List (List ℕ)) (found : List ℕ) : Type 0 where
  pub front : List (List ℕ)
  pub behind : List (List ℕ)
  pub are : words ≡ front ++ found ∷ behind
  pub near : are_near term found ≡ true
  pub first : Each (λ word. are_near term word ≡ true → distance term found < distance term word) front
  pub least : Each (λ word. are_near term word ≡ true → distance term found ≤ distance term word) behind

-- the nearest of the words, or none where none is near
abbrev pub Suggests : (term : List ℕ) → (words : List (List ℕ)) → Option (List ℕ) → Type 0
Suggests term words (Some found) = IsNearest term words found
Suggests term words None = Each (λ word. are_near term word ≡ false) words

abbrev pub now_of : Option (Bor (List ℕ)) → Option (List ℕ)
now_of word = option_map (λ text. text.now) word
