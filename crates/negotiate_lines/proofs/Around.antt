-- What stands around the first such byte of a term.
use Rattle.std.proofs.Common.{◌≡◌, ◌≢◌, ℕ, ◌+◌, ◌<◌, List, [], ◌∷◌, ◌++◌, Option, Some, None, length, slice_index, refl, sym, ap, ◌∙◌, Bor, arith}
use Rattle.std.specs.Prelude.{MatchOption}
use Rattle.std.proofs.lemmas.Str.Pattern.{IsSplitOnceResult, split_parts, split_after}
use Rattle.negotiate_lines.specs.Terms.{AreAround}

pub found_around : (c : ℕ) (bs : List ℕ) (r : Option (Bor (List ℕ) × Bor (List ℕ))) → c < 128
    → IsSplitOnceResult c bs r
    → MatchOption r ((front back : List ℕ) → AreAround c bs front back → ⊥)
    (λ parts. AreAround c bs parts.0.now parts.1.now)
found_around c bs None small h = λ front back are. split_after c bs front back None h small are.are are.first
found_around c bs (Some parts) small h =
    let found = split_parts c bs (Some parts) h small in
    record { are = found.0; first = found.1 }

-- there are no two ways to cut
pub record SameCut (f g b d : List ℕ) : Type 0 where
  pub front : f ≡ g
  pub back : b ≡ d

abbrev Lacks : ℕ → List ℕ → Type 0
Lacks c f = (i : ℕ) → i < length f → slice_index f i ≢ c

head_of : ℕ → List ℕ → ℕ
head_of d [] = d
head_of d (x ∷ xs) = x

tail_of : List ℕ → List ℕ
tail_of [] = []
tail_of (x ∷ xs) = xs

lacks_first : (c x : ℕ) (f : List ℕ) → Lacks c (x ∷ f) → x ≡ c → ⊥
lacks_first c x f lacks e = lacks 0 (omega arith) e

lacks_rest : (c x : ℕ) (f : List ℕ) → Lacks c (x ∷ f) → Lacks c f
lacks_rest c x f lacks i within e = lacks (i + 1) (omega (arith, within)) (grind (arith, e))

same_cut : (c : ℕ) (f g b d : List ℕ) → f ++ c ∷ b ≡ g ++ c ∷ d → Lacks c f → Lacks c g
    → SameCut f g b d
unfolding head_of tail_of
same_cut c [] [] b d e left right = record { front = refl; back = ap tail_of e }
same_cut c [] (y ∷ g) b d e left right = absurd (lacks_first c y g right (sym (ap (head_of 0) e)))
same_cut c (x ∷ f) [] b d e left right = absurd (lacks_first c x f left (ap (head_of 0) e))
same_cut c (x ∷ f) (y ∷ g) b d e left right =
    let rest = same_cut c f g b d (ap tail_of e) (lacks_rest c x f left) (lacks_rest c y g right) in
    record { front = λ i. ap (head_of 0) e i ∷ rest.front i; back = rest.back }

pub one_cut : (c : ℕ) (bs f g b d : List ℕ) → AreAround c bs f b → AreAround c bs g d → SameCut f g b d
one_cut c bs f g b d left right = same_cut c f g b d (sym left.are ∙ right.are) left.first right.first
