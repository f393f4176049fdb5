-- What stands already is set to no effect, and what a test says of a value.
use Rattle.std.proofs.Common.{◌≡◌, Bool, true, false, cond, Option, Some, None, ℕ, List, refl, sym, ap, subst, ◌∙◌}
use Rattle.std.specs.Prelude.{is_ok, is_some, is_err, ◌&&◌, Result, Ok, Err, OnErr}
use Rattle.std.specs.FinMap as map
use Rattle.std.specs.FinMap.{same_map, IsAntisymmetric}
use Rattle.std.specs.Ordering.{eq_by_cmp}
use Rattle.std.specs.declared.cmp.Ordering.{Ordering}
use Rattle.std.specs.Cmp.{IsTotalOrder, Equal-is}
use Rattle.finite_map.specs.Places.{place_in}
use Rattle.finite_map.proofs.Ranks.{place_there}
use Rattle.iceoryx2_world.specs.declared.world.Row.{Row}
use Rattle.iceoryx2_world.specs.declared.world.Row.TheVariants as row
use Rattle.iceoryx2_world.specs.World.{set_to}
use Rattle.iceoryx2_table.specs.ServicesState.{IsStateOf, HasBytes}
use Rattle.iceoryx2_table.specs.declared.rows.RowState.{RowState}
use Rattle.iceoryx2_table.specs.declared.rows.RowState.TheVariants as state
use Rattle.iceoryx2_world.proofs.agreement.Whole.{get-set_to}

module _ {K X : Type 0} {R : K → K → Ordering} (o : IsTotalOrder R) (exact : IsAntisymmetric R) where
  -- what stands already is set to no effect
  pub kept : (m : map.FinMap R X) (k : K) → m ≡ set_to m k (map.get m k)
  kept m k = sym (same_map o exact _ _ (λ q. get-set_to o m k (map.get m k) q ∙
      elim (eq_by_cmp R q k) as (λ b. eq_by_cmp R q k ≡ b → cond b (map.get m k) (map.get m q) ≡ map.get m q) [
        | true ↦ λ e. ap (λ x. map.get m x) (sym (exact q k ((Equal-is (R q k)).0 e)))
        | false ↦ λ e. refl
      ] refl))

-- whether a key is there, by its place
pub there_by_place : {K X : Type 0} {R : K → K → Ordering} (m : map.FinMap R X) (k : K) {place : Result ℕ ℕ} {y : Bool} → place ≡ place_in m k → is_ok place ≡ y → is_some (map.get m k) ≡ y
there_by_place m k e test = sym (place_there m k) ∙ ap is_ok (sym e) ∙ test

pub none_of : {A : Type 0} (o : Option A) → is_some o ≡ false → o ≡ None
none_of None e = refl
none_of (Some x) e = absurd (cc)

-- what is said of an error, where it is one
pub when_err : {A E P : Type 0} (r : Result A E) → is_err r ≡ true → OnErr r P → P
when_err (Ok x) e p = absurd (cc)
when_err (Err x) e p = p

pub both_true : (a b : Bool) → (a && b) ≡ true → (a ≡ true) × (b ≡ true)
both_true true b e = (refl, e)
both_true false b e = absurd (cc)

-- what a row tells, where the answer is known
pub told : (r : Row) {s t : RowState} → IsStateOf r s → s ≡ t → IsStateOf r t
told r tells is = subst (λ x. IsStateOf r x) is tells

-- a published row is its number with its bytes
pub written : (r : Row) {s : RowState} {n : ℕ} {bytes : List ℕ} → IsStateOf r s → HasBytes r bytes → s ≡ state.Published n → r ≡ row.Published n bytes
written r {n = n} {bytes = bytes} tells holds is =
    let t : IsStateOf r (state.Published n) = told r tells is in
    t.1 ∙ ap (row.Published n) (sym (subst (λ x. HasBytes x bytes) t.1 holds))
