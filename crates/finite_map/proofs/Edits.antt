-- What edits of a list in the order of its keys are, as edits of a map.
use Rattle.std.proofs.Common.{◌≡◌, ℕ, zero, suc, ◌<◌, ◌≤◌, Bool, true, false, not, List, [], ◌∷◌, length, get_or, set, Some, None, inl, inr, refl, sym, ap, subst, ◌∙◌, arith}
use Rattle.std.specs.Prelude.{◌&&◌, T}
use Rattle.std.specs.List.{insert, remove}
use Rattle.std.specs.List.Sorted.{IsNonDecreasingBy, IsSearchInRange, IsBinarySearchResult}
use Rattle.std.specs.Prelude.{Result, Ok, Err, IfOk, IfErr}
use Rattle.std.proofs.lemmas.Bool.{cases_lt}
use Rattle.std.specs.Ordering.{ordering_index, is_lt, eq_by_cmp, ordering_reverse}
use Rattle.std.specs.declared.cmp.Ordering.{Ordering}
use Rattle.std.specs.declared.cmp.Ordering.TheVariants.{Less, Equal, Greater}
use Rattle.std.specs.Cmp.{IsTotalOrder, alike_right, tied_back}
use Rattle.finite_map.specs.Places.{Gap, TiesAt}
use Rattle.std.specs.FinMap.Entries.{find, put, where_key, is_sorted, below_all}

pub true_T : {b : Bool} → b ≡ true → T b
true_T e = subst T (sym e) tt

pub T_true : (b : Bool) → T b → b ≡ true
T_true true h = refl
T_true false h = absurd h

pub split_both : (a b : Bool) → T (a && b) → T a × T b
split_both true b h = (tt, h)
split_both false b h = absurd h

is_less : (o : Ordering) → T (is_lt o) → o ≡ Less
is_less Less h = refl
is_less Equal h = absurd h
is_less Greater h = absurd h

index_small : (r : Ordering) → ordering_index r ≤ 2
index_small Less = omega arith
index_small Equal = omega arith
index_small Greater = omega arith

module _ {K : Type 0} (R : K → K → Ordering) (o : IsTotalOrder R) where
  pub turned : (x y : K) → R x y ≡ Less → R y x ≡ Greater
  turned x y e = o.antisymm y x ∙ ap ordering_reverse e

  pub back : (x y : K) → R x y ≡ Greater → R y x ≡ Less
  back x y e = o.antisymm y x ∙ ap ordering_reverse e

  -- a greater key compares no less with k
  pub indices_rise : (x y k : K) → R x y ≡ Less → ordering_index (R x k) ≤ ordering_index (R y k)
  indices_rise x y k less = elim (R y k) as (λ r. R y k ≡ r → ordering_index (R x k) ≤ ordering_index r) [
    | Less ↦ λ e. rw (o.trans x y k less e) (omega arith)
    | Equal ↦ λ e. rw (sym (alike_right o y k x e) ∙ less) (omega arith)
    | Greater ↦ λ e. index_small (R x k)
  ] refl

module _ {K X : Type 0} (R : K → K → Ordering) (o : IsTotalOrder R) where
  -- the first key is below each later one
  pub below_each : (x : K) (es : List (K × X)) → T (below_all R x es) → (i : ℕ) (d : K × X) → i < length es → R x (get_or es i d).0 ≡ Less
  below_each x [] h i d lt = absurd (omega arith)
  below_each x (e ∷ es) h zero d lt = is_less _ (split_both _ _ h).0
  below_each x (e ∷ es) h (suc i) d lt = below_each x es (split_both _ _ h).1 i d (omega arith)

  -- a key at place i
  pub find_at : (k : K) (es : List (K × X)) → T (is_sorted R es) → (i : ℕ) (d : K × X) → i < length es → R (get_or es i d).0 k ≡ Equal → find R k es ≡ Some (get_or es i d).1
  find_at k [] s i d lt e = absurd (omega arith)
  find_at k (x ∷ es) s zero d lt e = rw (tied_back o x.0 k e) refl
  find_at k (x ∷ es) s (suc i) d lt e =
      let less : R x.0 k ≡ Less = sym (alike_right o _ k x.0 e) ∙ below_each x.0 es (split_both _ _ s).0 i d (omega arith) in
      rw (turned R o x.0 k less) (find_at k es (split_both _ _ s).1 i d (omega arith) e)

  pub put_at : (k : K) (v : X) (es : List (K × X)) → T (is_sorted R es) → (i : ℕ) (d : K × X) → i < length es → R (get_or es i d).0 k ≡ Equal → put R k v es ≡ set es i ((get_or es i d).0, v)
  put_at k v [] s i d lt e = absurd (omega arith)
  put_at k v (x ∷ es) s zero d lt e = rw (tied_back o x.0 k e) refl
  put_at k v (x ∷ es) s (suc i) d lt e =
      let less : R x.0 k ≡ Less = sym (alike_right o _ k x.0 e) ∙ below_each x.0 es (split_both _ _ s).0 i d (omega arith) in
      rw (turned R o x.0 k less) (ap (λ t. x ∷ t) (put_at k v es (split_both _ _ s).1 i d (omega arith) e))

  pub gap_tail : (k : K) (x : K × X) (es : List (K × X)) (i : ℕ) → Gap R k (x ∷ es) (suc i) → Gap R k es i
  gap_tail k x es i g = (λ j d lt l. g.0 (suc j) d (omega arith) (omega arith), λ j d l lt. g.1 (suc j) d (omega arith) (omega arith))

  gap_rest : (k : K) (x : K × X) (es : List (K × X)) → Gap R k (x ∷ es) 0 → Gap R k es 0
  gap_rest k x es g = (λ j d lt l. absurd (omega arith), λ j d l lt. g.1 (suc j) d (omega arith) (omega arith))

  pub find_gap : (k : K) (es : List (K × X)) (i : ℕ) → Gap R k es i → find R k es ≡ None
  find_gap k [] i g = refl
  find_gap k (x ∷ es) zero g = rw (back R o x.0 k (g.1 0 x (omega arith) (omega arith))) (find_gap k es 0 (gap_rest k x es g))
  find_gap k (x ∷ es) (suc i) g = rw (turned R o x.0 k (g.0 0 x (omega arith) (omega arith))) (find_gap k es i (gap_tail k x es i g))

  pub put_gap : (k : K) (v : X) (es : List (K × X)) (i : ℕ) → i ≤ length es → Gap R k es i → put R k v es ≡ insert es i (k, v)
  put_gap k v [] zero le g = refl
  put_gap k v [] (suc i) le g = absurd (omega arith)
  put_gap k v (x ∷ es) zero le g = rw (back R o x.0 k (g.1 0 x (omega arith) (omega arith))) refl
  put_gap k v (x ∷ es) (suc i) le g = rw (turned R o x.0 k (g.0 0 x (omega arith) (omega arith))) (ap (λ t. x ∷ t) (put_gap k v es i (omega arith) (gap_tail k x es i g)))

  pub without_gap : (k : K) (es : List (K × X)) (i : ℕ) → Gap R k es i → where_key R (λ x. not (eq_by_cmp R k x)) es ≡ es
  without_gap k [] i g = refl
  without_gap k (x ∷ es) zero g = rw (back R o x.0 k (g.1 0 x (omega arith) (omega arith))) (ap (λ t. x ∷ t) (without_gap k es 0 (gap_rest k x es g)))
  without_gap k (x ∷ es) (suc i) g = rw (turned R o x.0 k (g.0 0 x (omega arith) (omega arith))) (ap (λ t. x ∷ t) (without_gap k es i (gap_tail k x es i g)))

  pub without_at : (k : K) (es : List (K × X)) → T (is_sorted R es) → (i : ℕ) (d : K × X) → i < length es → R (get_or es i d).0 k ≡ Equal → where_key R (λ x. not (eq_by_cmp R k x)) es ≡ remove es i
  without_at k [] s i d lt e = absurd (omega arith)
  without_at k (x ∷ es) s zero d lt e =
      rw (tied_back o x.0 k e) (without_gap k es 0 (λ j f l z. absurd (omega arith), λ j f z l. sym (alike_right o _ k (get_or es j f).0 e) ∙ turned R o x.0 (get_or es j f).0 (below_each x.0 es (split_both _ _ s).0 j f l)))
  without_at k (x ∷ es) s (suc i) d lt e =
      let less : R x.0 k ≡ Less = sym (alike_right o _ k x.0 e) ∙ below_each x.0 es (split_both _ _ s).0 i d (omega arith) in
      rw (turned R o x.0 k less) (ap (λ t. x ∷ t) (without_at k es (split_both _ _ s).1 i d (omega arith) e))

  -- the answers of a search by key rise
  pub answers_rise : (k : K) (es : List (K × X)) → T (is_sorted R es) → IsNonDecreasingBy (λ y. ordering_index (R y.0 k)) es
  answers_rise k es s i j d le lt = elim (cases_lt i j) [
    | inl below ↦ rise k es s i j d below lt
    | inr same ↦ let e : i ≡ j = omega arith in subst (λ (m : ℕ). ordering_index (R (get_or es i d).0 k) ≤ ordering_index (R (get_or es m d).0 k)) e (omega arith)
  ]
    where
      rise : (k : K) (es : List (K × X)) → T (is_sorted R es) → (i j : ℕ) (d : K × X) → i < j → j < length es → ordering_index (R (get_or es i d).0 k) ≤ ordering_index (R (get_or es j d).0 k)
      rise k [] s i j d l m = absurd (omega arith)
      rise k (x ∷ es) s i zero d l m = absurd (omega arith)
      rise k (x ∷ es) s zero (suc j) d l m = indices_rise R o x.0 (get_or es j d).0 k (below_each x.0 es (split_both _ _ s).0 j d (omega arith))
      rise k (x ∷ es) s (suc i) (suc j) d l m = rise k es (split_both _ _ s).1 i j d (omega arith) (omega arith)

module _ {K X : Type 0} (R : K → K → Ordering) (o : IsTotalOrder R) where
  -- a binary search by key ends at the key, or at the gap for it
  pub searched : (k : K) (es : List (K × X)) → is_sorted R es ≡ true → (r : Result ℕ ℕ) → IsSearchInRange r (length es) → IsBinarySearchResult (λ y. R y.0 k) es r → IfOk r (TiesAt R k es) × IfErr r (Gap R k es)
  searched k es s (Ok i) within equal = ((within, equal), tt)
  searched k es s (Err i) within parted = (tt, let p = parted (answers_rise R o k es (subst T (sym s) tt)) in (λ j d lt l. p.0 j d (omega arith) l, λ j d le lt. p.1 j d le lt))
