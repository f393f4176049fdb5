-- What the place of a key says of the map.
use Rattle.std.proofs.Common.{◌≡◌, ℕ, ◌<◌, true, false, cond, List, length, get_or, Option, Some, None, refl, sym, ap, ◌∙◌}
use Rattle.std.specs.Prelude.{is_ok, is_some, Result, Ok, Err}
use Rattle.std.specs.FinMap as map
use Rattle.std.specs.FinMap.{IsAntisymmetric, same_map, get-remove}
use Rattle.std.specs.Ordering.{eq_by_cmp}
use Rattle.std.specs.Cmp.{IsTotalOrder, Equal-is}
use Rattle.std.specs.declared.cmp.Ordering.{Ordering}
use Rattle.std.specs.declared.cmp.Ordering.TheVariants.{Equal}
use Rattle.std.proofs.lemmas.List.{get_or_default}
use Rattle.finite_map.specs.Places.{TiesAt}
use Rattle.finite_map.proofs.Ranks.{place_there}
use Rattle.sorted_vec.specs.Sorted.{Stored, map_of, IsPlace}

-- whether the key is there
pub place_tells : {K V : Type 0} (R : K → K → Ordering) (s : Stored K V) (k : K) (i : ℕ) (r : Result ℕ ℕ) → IsPlace R s k i r
    → is_ok r ≡ is_some (map.get (map_of R s) k)
place_tells R s k i (Ok at) stands = ap is_ok stands.0.1 ∙ place_there (map_of R s) k
place_tells R s k i (Err at) stands = ap is_ok stands.0.1 ∙ place_there (map_of R s) k

-- the key that was read at a place
pub ties_by : {K V : Type 0} (R : K → K → Ordering) (k : K) (es : List (K × V)) (i : ℕ) (d : K × V) → i < length es → R (get_or es i d).0 k ≡ Equal → TiesAt R k es i
ties_by R k es i d l equal = (l, λ e. ap (λ x. R x.0 k) (get_or_default es i e d l) ∙ equal)

none_by : {A : Type 0} (x : Option A) → false ≡ is_some x → x ≡ None
none_by None e = refl
none_by (Some v) e = absurd (cc)

-- a key with a gap isn't there
pub none_at : {K V : Type 0} (R : K → K → Ordering) (s : Stored K V) (k : K) (i : ℕ) (r : Result ℕ ℕ) (at : ℕ) → IsPlace R s k i r
    → r ≡ Err at → map.get (map_of R s) k ≡ None
none_at R s k i r at place is = none_by _ (sym (ap is_ok is) ∙ place_tells R s k i r place)

-- to take out a key that isn't there changes nothing
removed_none : {K V : Type 0} (R : K → K → Ordering) → IsTotalOrder R → IsAntisymmetric R → (m : map.FinMap R V) (k : K) → map.get m k ≡ None → m ≡ map.remove m k
removed_none R o same m k none = same_map o same _ _ (λ q. sym (get-remove o m k q ∙ elim (eq_by_cmp R q k) as (λ b. eq_by_cmp R q k ≡ b → cond b None (map.get m q) ≡ map.get m q) [
  | true ↦ λ e. sym none ∙ ap (λ x. map.get m x) (sym (same q k ((Equal-is (R q k)).0 e)))
  | false ↦ λ e. refl
] refl))

-- and to take it out changes nothing
pub not_there : {K V : Type 0} (R : K → K → Ordering) (o : IsTotalOrder R) (same : IsAntisymmetric R) (s : Stored K V) (k : K) (i : ℕ) (r : Result ℕ ℕ) (at : ℕ) → IsPlace R s k i r
    → r ≡ Err at → map_of R s ≡ map.remove (map_of R s) k
not_there R o same s k i r at place is = removed_none R o same (map_of R s) k (none_at R s k i r at place is)
