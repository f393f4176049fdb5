-- A list that has nothing at any place.
use Rattle.std.proofs.Common.{◌≡◌, ℕ, zero, suc, ◌<◌, Bool, true, false, List, [], ◌∷◌, Option, Some, None, length, get_or, replicate, refl, sym, ap, subst, ◌∙◌}
use Rattle.std.specs.Prelude.{slice_get, slice_set, MatchBool}
use Rattle.std.specs.List.{AllByRecursion}
use Rattle.std.proofs.lemmas.List.Elements.{recursion_from_All}

all_none : {X : Type 0} (xs : List (Option X)) → AllByRecursion (λ o. o ≡ None) xs → xs ≡ replicate (length xs) None
all_none [] h = refl
all_none {X} (x ∷ xs) h = ap (λ o. o ∷ xs) h.0 ∙ ap (λ (l : List (Option X)). None ∷ l) (all_none xs h.1)

pub nothing_anywhere : {X : Type 0} (xs : List (Option X)) (n : ℕ) → length xs ≡ n → ((i : ℕ) (d : Option X) → i < n → get_or xs i d ≡ None) → xs ≡ replicate n None
nothing_anywhere {X} xs n e at =
    all_none xs (recursion_from_All (λ o. o ≡ None) xs (λ k d h. at k d (subst (λ m. k < m) e h))) ∙ ap (λ m. replicate m None) e

pub set_same : {X : Type 0} (xs : List X) (k : ℕ) (v : X) → slice_get xs k ≡ Some v → slice_set xs k v ≡ xs
set_same [] k v e = absurd cc
set_same (x ∷ xs) zero v e = let is : x ≡ v = cc in ap (λ u. u ∷ xs) (sym is)
set_same {X} (x ∷ xs) (suc k) v e = ap (λ (l : List X). x ∷ l) (set_same xs k v e)

-- what was there is put where something else was set
pub set_again : {X : Type 0} (xs : List X) (k : ℕ) (u v : X) → slice_get xs k ≡ Some v → slice_set (slice_set xs k u) k v ≡ xs
set_again [] k u v e = absurd cc
set_again (x ∷ xs) zero u v e = let is : x ≡ v = cc in ap (λ y. y ∷ xs) (sym is)
set_again {X} (x ∷ xs) (suc k) u v e = ap (λ (l : List X). x ∷ l) (set_again xs k u v e)

-- the fact of one value of a test
pub when_true : {P : Type 0} (Q : Type 0) (b : Bool) → MatchBool b P Q → b ≡ true → P
when_true Q true h e = h
when_true Q false h e = absurd cc

pub when_false : (P : Type 0) {Q : Type 0} (b : Bool) → MatchBool b P Q → b ≡ false → Q
when_false P true h e = absurd cc
when_false P false h e = h
