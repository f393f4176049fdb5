-- How many entries of a map pass a test, after an edit.
use Rattle.std.proofs.Common.{◌≡◌, ℕ, ◌+◌, Bool, true, false, cond, List, [], ◌∷◌, Some, None, refl, arith}
use Rattle.std.specs.Prelude.{filter, length}
use Rattle.std.specs.Ordering.{is_eq}
use Rattle.std.specs.declared.cmp.Ordering.{Ordering}
use Rattle.std.specs.declared.cmp.Ordering.TheVariants.{Less, Equal, Greater}
use Rattle.std.specs.FinMap.Entries.{find, put, by_order}

module _ {K X : Type 0} (R : K → K → Ordering) (p : K × X → Bool) where
  abbrev pub passing : List (K × X) → ℕ
  passing es = length (filter p es)

  one_of : (x : K × X) (es : List (K × X)) → passing (x ∷ es) ≡ cond (p x) 1 0 + passing es
  one_of x es = elim (p x) as (λ b. length (cond b (x ∷ filter p es) (filter p es)) ≡ cond b 1 0 + passing es) [ true ↦ omega arith | false ↦ omega arith ]

  pub passing_put : (k : K) (v : X) (es : List (K × X)) → find R k es ≡ None → passing (put R k v es) ≡ cond (p (k, v)) 1 0 + passing es
  passing_put k v [] none = one_of (k, v) []
  passing_put k v (x ∷ es) none = elim (R k x.0) as (λ r. R k x.0 ≡ r → cond (is_eq r) (Some x.1) (find R k es) ≡ None → passing (by_order r ((k, v) ∷ x ∷ es) ((x.0, v) ∷ es) (x ∷ put R k v es)) ≡ cond (p (k, v)) 1 0 + passing (x ∷ es)) [
    | Less ↦ λ e n. one_of (k, v) (x ∷ es)
    | Equal ↦ λ e n. absurd (cc)
    | Greater ↦ λ e n. omega (arith, one_of x (put R k v es), one_of x es, passing_put k v es n)
  ] refl none
