-- Lists one behind the other are the same, whether they are joined from the left or from the right.
use Rattle.std.proofs.Common.{◌≡◌, ℕ, List, [], ◌∷◌, ◌++◌, refl, sym, ap, ◌∙◌, append_assoc}

-- a list and those behind it, joined from the left
abbrev pub from_left : List ℕ → List (List ℕ) → List ℕ
from_left a [] = a
from_left a (b ∷ others) = from_left (a ++ b) others

-- the same, joined from the right
abbrev pub from_right : List ℕ → List (List ℕ) → List ℕ
from_right a [] = a
from_right a (b ∷ others) = a ++ from_right b others

-- behind what was written
pub behind : (out a : List ℕ) (others : List (List ℕ)) → from_left (out ++ a) others ≡ out ++ from_left a others
behind out a [] = refl
behind out a (b ∷ others) = ap (λ (front : List ℕ). from_left front others) (append_assoc out a b) ∙ behind out (a ++ b) others

pub regrouped : (a : List ℕ) (others : List (List ℕ)) → from_right a others ≡ from_left a others
regrouped a [] = refl
regrouped a (b ∷ others) = ap (λ (back : List ℕ). a ++ back) (regrouped b others) ∙ sym (behind a b others)
