-- A part stands in a text just where it is found.
use Rattle.std.proofs.Common.{◌≡◌, ◌⊎◌, inl, inr, ℕ, Bool, true, false, List, [], ◌∷◌, ◌++◌, drop, length, refl, sym, ap, ◌∙◌}
use Rattle.std.specs.Prelude.{◌||◌, nat_eq}
use Rattle.std.specs.List.{starts_with}
use Rattle.std.specs.Str.Iter.{HasSubslice}
use Rattle.std.proofs.lemmas.Bool.Decides.{Decides-eqb}
use Rattle.std.proofs.lemmas.Slice.Eq.{starts_is}
use Rattle.wulameron_view.specs.Filters.{has_part}

tail : List ℕ → List ℕ
tail [] = []
tail (x ∷ xs) = xs

in_front : (a b : Bool) → a ≡ true → (a || b) ≡ true
in_front true b p = refl
in_front false b p = absurd cc

behind : (a b : Bool) → b ≡ true → (a || b) ≡ true
behind true b p = refl
behind false b p = p

pub found : (s n : List ℕ) → HasSubslice s n → has_part s n ≡ true
unfolding has_part tail
found [] n ([], b, e) = (starts_is Decides-eqb [] n (starts_with nat_eq [] n) refl).1 b e
found [] n (a ∷ before, b, e) = absurd cc
found (c ∷ cs) n ([], b, e) =
    in_front (starts_with nat_eq (c ∷ cs) n) (has_part cs n) ((starts_is Decides-eqb (c ∷ cs) n (starts_with nat_eq (c ∷ cs) n) refl).1 b e)
found (c ∷ cs) n (a ∷ before, b, e) = behind (starts_with nat_eq (c ∷ cs) n) (has_part cs n) (found cs n (before, b, ap tail e))

split : (r : Bool) → ((r ≡ true) ⊎ (r ≡ false))
split true = inl refl
split false = inr refl

later : (c : ℕ) (cs n : List ℕ) → HasSubslice cs n → HasSubslice (c ∷ cs) n
later c cs n (a, b, e) = (c ∷ a, b, ap (λ l. c ∷ l) e)

last : (a b : Bool) → a ≡ false → (a || b) ≡ true → b ≡ true
last false b p q = q
last true b p q = absurd cc

pub stands : (s n : List ℕ) → has_part s n ≡ true → HasSubslice s n
unfolding has_part
stands [] n is = ([], drop (length n) [], (starts_is Decides-eqb [] n (starts_with nat_eq [] n) refl).0 is)
stands (c ∷ cs) n is = elim (split (starts_with nat_eq (c ∷ cs) n)) [
  | inl first ↦ ([], drop (length n) (c ∷ cs), (starts_is Decides-eqb (c ∷ cs) n (starts_with nat_eq (c ∷ cs) n) refl).0 first)
  | inr none ↦ later c cs n (stands cs n (last (starts_with nat_eq (c ∷ cs) n) (has_part cs n) none is))
]

pub same : (r s : Bool) → (r ≡ true → s ≡ true) → (s ≡ true → r ≡ true) → r ≡ s
same true s f g = sym (f refl)
same false true f g = g refl
same false false f g = refl
