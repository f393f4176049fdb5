-- What a map with one value set gives, by cases.
use Rattle.std.proofs.Common.{◌≡◌, ◌≢◌, true, false, cond, ◌⊎◌, inl, inr, Option, refl, sym, ap, subst, ◌∙◌}
use mathlib.Core.Bool.{true≢false}
use Rattle.std.specs.FinMap as map
use Rattle.iceoryx2_world.specs.Sets as set
use Rattle.std.specs.Prelude.{◌||◌}
use Rattle.std.specs.Ordering.{is_eq, eq_by_cmp}
use Rattle.std.specs.declared.cmp.Ordering.{Ordering}
use Rattle.std.specs.Cmp.{IsTotalOrder, Equal-is, tied_itself}
use Rattle.std.proofs.lemmas.Map.Lookups.{CmpEqualImpliesEq}
use Rattle.iceoryx2_world.specs.World.{set_to}
use Rattle.iceoryx2_world.proofs.agreement.Whole.{get-set_to}

module _ {K : Type 0} {R : K → K → Ordering} (o : IsTotalOrder R) (exact : CmpEqualImpliesEq R) where
  pub self : (k : K) → eq_by_cmp R k k ≡ true
  self k = ap is_eq (tied_itself o k)

  pub apart : (q k : K) → eq_by_cmp R q k ≡ false → q ≢ k
  apart q k e is = true≢false (sym (subst (λ r. eq_by_cmp R r k ≡ true) (sym is) (self k)) ∙ e)

  pub tied : (q k : K) → eq_by_cmp R q k ≡ true → q ≡ k
  tied q k e = exact q k ((Equal-is (R q k)).0 e)

  pub either : (q k : K) → (q ≡ k) ⊎ ((q ≢ k) × (eq_by_cmp R q k ≡ false))
  either q k = elim (eq_by_cmp R q k) as (λ b. eq_by_cmp R q k ≡ b → (q ≡ k) ⊎ ((q ≢ k) × (b ≡ false))) [
    | true ↦ λ e. inl (tied q k e)
    | false ↦ λ e. inr (apart q k e, refl)
  ] refl

  pub set_cases : {X : Type 0} (m : map.FinMap R X) (k : K) (v : Option X) (q : K) → ((q ≡ k) × (map.get (set_to m k v) q ≡ v)) ⊎ ((q ≢ k) × (map.get (set_to m k v) q ≡ map.get m q))
  set_cases m k v q = elim (eq_by_cmp R q k) as (λ b. eq_by_cmp R q k ≡ b → ((q ≡ k) × (map.get (set_to m k v) q ≡ v)) ⊎ ((q ≢ k) × (map.get (set_to m k v) q ≡ map.get m q))) [
    | true ↦ λ e. inl (tied q k e, get-set_to o m k v q ∙ ap (λ b. cond b v (map.get m q)) e)
    | false ↦ λ e. inr (apart q k e, get-set_to o m k v q ∙ ap (λ b. cond b v (map.get m q)) e)
  ] refl

  pub set_has : (s : set.FinSet R) (k : K) → set.contains (set.insert s k) k ≡ true
  set_has s k = set.contains-insert o s k k ∙ ap (λ b. b || set.contains s k) (self k)
