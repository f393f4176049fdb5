-- What attributes lack.
use Rattle.std.proofs.Common.{◌≡◌, ℕ, Bool, true, false, not, List, [], ◌∷◌, All, Option, Some, None, refl}
use Rattle.std.specs.Prelude.{IsTrue}
use Rattle.std.specs.List.{find}
use Rattle.std.proofs.lemmas.List.Elements.{All-nil, All-cons, All-head, All-tail}
use Rattle.iceoryx2_attribute.specs.Attributes.{Pair, has_pair, has_key}
use Rattle.iceoryx2_attribute.specs.Requirements.{Requirements, lacking_pair, lacking_key, first_lacking, AreMetBy, pair_or_key}

module _ {A : Type 0} (there : A → Bool) where
  all_there : (xs : List A) → find (λ x. not (there x)) xs ≡ None → All (λ x. IsTrue (there x)) xs
  all_there [] h = All-nil (λ x. IsTrue (there x))
  all_there (x ∷ xs) h = elim (there x) as (λ b. there x ≡ b → All (λ x. IsTrue (there x)) (x ∷ xs)) [
    | true ↦ λ e. All-cons (λ x. IsTrue (there x)) x xs e (all_there xs (rw e at h))
    | false ↦ λ e. let wrong = rw e at h in absurd (cc)
  ] refl

  none_lacks : (xs : List A) → All (λ x. IsTrue (there x)) xs → find (λ x. not (there x)) xs ≡ None
  none_lacks [] h = refl
  none_lacks (x ∷ xs) h = rw (All-head (λ x. IsTrue (there x)) x xs h) (none_lacks xs (All-tail (λ x. IsTrue (there x)) x xs h))

is_neither : (p : Option Pair) (key : Option (List ℕ)) → pair_or_key p key ≡ None → (p ≡ None) × (key ≡ None)
is_neither None key h = (refl, h)
is_neither (Some p) key h = cc

-- where nothing is lacking, they are met
pub is_met : (r : Requirements) (ps : List Pair) → first_lacking r ps ≡ None → AreMetBy r ps
unfolding first_lacking lacking_pair lacking_key
is_met r ps h =
    let parts = is_neither (lacking_pair r.pairs ps) (lacking_key r.keys ps) h in
    (all_there (has_pair ps) r.pairs parts.0, all_there (has_key ps) r.keys parts.1)

-- and the other way round
pub none_lacking : (r : Requirements) (ps : List Pair) → AreMetBy r ps → first_lacking r ps ≡ None
unfolding first_lacking lacking_pair lacking_key
none_lacking r ps all = rw (none_lacks (has_pair ps) r.pairs all.0, none_lacks (has_key ps) r.keys all.1) refl

-- where something is lacking, they are not met
pub is_unmet : (r : Requirements) (ps : List Pair) (key : List ℕ) → first_lacking r ps ≡ Some key → AreMetBy r ps → ⊥
is_unmet r ps key h all = let none = none_lacking r ps all in absurd (cc)
