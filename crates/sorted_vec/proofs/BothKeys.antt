-- A walk over two maps comes to each key of either once.
use Rattle.std.proofs.Common.{◌≡◌, Bool, true, false, cond, List, [], ◌∷◌, Option, Some, None, refl, sym, ap, subst, ◌∙◌}
use Rattle.std.specs.Prelude.{T, ◌&&◌}
use Rattle.std.specs.FinMap as map
use Rattle.std.specs.FinMap.{FinMap, IsAntisymmetric}
use Rattle.std.specs.FinMap.Entries.{find, is_sorted, below_all}
use Rattle.std.specs.Ordering.{eq_by_cmp, is_lt, match_ordering}
use Rattle.std.specs.Cmp.{IsTotalOrder, Equal-is}
use Rattle.std.specs.declared.cmp.Ordering.{Ordering}
use Rattle.std.specs.declared.cmp.Ordering.TheVariants.{Less, Equal, Greater}
use Rattle.finite_map.proofs.Edits.{back, split_both}
use Rattle.sorted_vec.specs.Both.{both, pair_at, IsBoth}

less_of : (o : Ordering) → T (is_lt o) → o ≡ Less
less_of Less h = refl
less_of Equal h = absurd h
less_of Greater h = absurd h

join : (a b : Bool) → T a → T b → T (a && b)
join true b p q = q
join false b p q = p

module _ {K : Type 0} (R : K → K → Ordering) (o : IsTotalOrder R) where
  -- a lesser key is below all that a greater one is below
  below_less : {X : Type 0} (x y : K) (es : List (K × X)) → R x y ≡ Less → T (below_all R y es) → T (below_all R x es)
  below_less x y [] e h = tt
  below_less x y (z ∷ es) e h =
      let p = split_both _ _ h in
      join _ _ (subst (λ r. T (is_lt r)) (sym (o.trans x y z.0 e (less_of _ p.0))) tt) (below_less x y es e p.1)

  below_first : {X : Type 0} (x y : K) (v : X) (es : List (K × X)) → R x y ≡ Less → T (below_all R y es) → T (below_all R x ((y, v) ∷ es))
  below_first x y v es e h = join _ _ (subst (λ r. T (is_lt r)) (sym e) tt) (below_less x y es e h)

  none_below : {X : Type 0} (q : K) (es : List (K × X)) → T (below_all R q es) → find R q es ≡ None
  none_below q [] h = refl
  none_below q (e ∷ es) h = let p = split_both _ _ h in rw (less_of (R q e.0) p.0) (none_below q es p.1)

  found_key : IsAntisymmetric R → (q k : K) → eq_by_cmp R q k ≡ true → q ≡ k
  found_key same q k e = same q k ((Equal-is (R q k)).0 e)

  module _ {V W : Type 0} where
    below : (k : K) (vs : List (K × V)) (ws : List (K × W)) → T (below_all R k vs) → T (below_all R k ws) → T (below_all R k (both R vs ws))
    unfolding both
    below k [] [] a b = tt
    below k [] (w ∷ ws) a b = let p = split_both _ _ b in join _ _ p.0 (below k [] ws tt p.1)
    below k (v ∷ vs) [] a b = let p = split_both _ _ a in join _ _ p.0 (below k vs [] p.1 tt)
    below k (v ∷ vs) (w ∷ ws) a b =
        let p = split_both _ _ a in
        let q = split_both _ _ b in
        elim (R v.0 w.0) as (λ r. T (below_all R k (match_ordering r
        ((v.0, (Some v.1, None)) ∷ both R vs (w ∷ ws))
        ((v.0, (Some v.1, Some w.1)) ∷ both R vs ws)
        ((w.0, (None, Some w.1)) ∷ both R (v ∷ vs) ws)))) [
          | Less ↦ join _ _ p.0 (below k vs (w ∷ ws) p.1 b)
          | Equal ↦ join _ _ p.0 (below k vs ws p.1 q.1)
          | Greater ↦ join _ _ q.0 (below k (v ∷ vs) ws a q.1)
        ]

    module _ (same : IsAntisymmetric R) where
      ascends : (vs : List (K × V)) (ws : List (K × W)) → T (is_sorted R vs) → T (is_sorted R ws) → T (is_sorted R (both R vs ws))
      unfolding both
      ascends [] [] a b = tt
      ascends [] (w ∷ ws) a b = let p = split_both _ _ b in join _ _ (below w.0 [] ws tt p.0) (ascends [] ws tt p.1)
      ascends (v ∷ vs) [] a b = let p = split_both _ _ a in join _ _ (below v.0 vs [] p.0 tt) (ascends vs [] p.1 tt)
      ascends (v ∷ vs) (w ∷ ws) a b =
          let p = split_both _ _ a in
          let q = split_both _ _ b in
          elim (R v.0 w.0) as (λ r. R v.0 w.0 ≡ r → T (is_sorted R (match_ordering r
          ((v.0, (Some v.1, None)) ∷ both R vs (w ∷ ws))
          ((v.0, (Some v.1, Some w.1)) ∷ both R vs ws)
          ((w.0, (None, Some w.1)) ∷ both R (v ∷ vs) ws)))) [
            | Less ↦ λ e. join _ _ (below v.0 vs (w ∷ ws) p.0 (below_first v.0 w.0 w.1 ws e q.0)) (ascends vs (w ∷ ws) p.1 b)
            | Equal ↦ λ e. join _ _ (below v.0 vs ws p.0 (subst (λ k. T (below_all R k ws)) (sym (same v.0 w.0 e)) q.0)) (ascends vs ws p.1 q.1)
            | Greater ↦ λ e. join _ _ (below w.0 (v ∷ vs) ws (below_first w.0 v.0 v.1 vs (back R o v.0 w.0 e) p.0) q.0) (ascends (v ∷ vs) ws a q.1)
          ] refl

      module _ (q : K) where
        find_one : (v : K × V) (vs : List (K × V)) (ws : List (K × W)) (found : Option (Option V × Option W)) → T (below_all R v.0 ws) → found ≡ pair_at (find R q vs) (find R q ws)
            → cond (eq_by_cmp R q v.0) (Some (Some v.1, None)) found ≡ pair_at (find R q (v ∷ vs)) (find R q ws)
        find_one v vs ws found b rest =
            elim (eq_by_cmp R q v.0) as (λ t. eq_by_cmp R q v.0 ≡ t → cond t (Some (Some v.1, None)) found ≡ pair_at (cond t (Some v.1) (find R q vs)) (find R q ws)) [
              | true ↦ λ t. ap (pair_at (Some v.1)) (sym (none_below q ws (subst (λ k. T (below_all R k ws)) (sym (found_key same q v.0 t)) b)))
              | false ↦ λ t. rest
            ] refl

        find_other : (w : K × W) (vs : List (K × V)) (ws : List (K × W)) (found : Option (Option V × Option W)) → T (below_all R w.0 vs) → found ≡ pair_at (find R q vs) (find R q ws)
            → cond (eq_by_cmp R q w.0) (Some (None, Some w.1)) found ≡ pair_at (find R q vs) (find R q (w ∷ ws))
        find_other w vs ws found b rest =
            elim (eq_by_cmp R q w.0) as (λ t. eq_by_cmp R q w.0 ≡ t → cond t (Some (None, Some w.1)) found ≡ pair_at (find R q vs) (cond t (Some w.1) (find R q ws))) [
              | true ↦ λ t. ap (λ v. pair_at v (Some w.1)) (sym (none_below q vs (subst (λ k. T (below_all R k vs)) (sym (found_key same q w.0 t)) b)))
              | false ↦ λ t. rest
            ] refl

        find_both : (v : K × V) (w : K × W) (vs : List (K × V)) (ws : List (K × W)) (found : Option (Option V × Option W)) → v.0 ≡ w.0 → found ≡ pair_at (find R q vs) (find R q ws)
            → cond (eq_by_cmp R q v.0) (Some (Some v.1, Some w.1)) found ≡ pair_at (find R q (v ∷ vs)) (find R q (w ∷ ws))
        find_both v w vs ws found e rest =
            subst (λ k. cond (eq_by_cmp R q v.0) (Some (Some v.1, Some w.1)) found ≡ pair_at (cond (eq_by_cmp R q v.0) (Some v.1) (find R q vs)) (cond (eq_by_cmp R q k) (Some w.1) (find R q ws))) e
            (elim (eq_by_cmp R q v.0) as (λ t. cond t (Some (Some v.1, Some w.1)) found ≡ pair_at (cond t (Some v.1) (find R q vs)) (cond t (Some w.1) (find R q ws))) [
              | true ↦ refl
              | false ↦ rest
            ])

        finds : (vs : List (K × V)) (ws : List (K × W)) → T (is_sorted R vs) → T (is_sorted R ws) → find R q (both R vs ws) ≡ pair_at (find R q vs) (find R q ws)
        unfolding both
        finds [] [] a b = refl
        finds [] (w ∷ ws) a b = find_other w [] ws _ tt (finds [] ws tt (split_both _ _ b).1)
        finds (v ∷ vs) [] a b = find_one v vs [] _ tt (finds vs [] (split_both _ _ a).1 tt)
        finds (v ∷ vs) (w ∷ ws) a b =
            let p = split_both _ _ a in
            let z = split_both _ _ b in
            elim (R v.0 w.0) as (λ r. R v.0 w.0 ≡ r → find R q (match_ordering r
            ((v.0, (Some v.1, None)) ∷ both R vs (w ∷ ws))
            ((v.0, (Some v.1, Some w.1)) ∷ both R vs ws)
            ((w.0, (None, Some w.1)) ∷ both R (v ∷ vs) ws)) ≡ pair_at (find R q (v ∷ vs)) (find R q (w ∷ ws))) [
              | Less ↦ λ e. find_one v vs (w ∷ ws) _ (below_first v.0 w.0 w.1 ws e z.0) (finds vs (w ∷ ws) p.1 b)
              | Equal ↦ λ e. find_both v w vs ws _ (same v.0 w.0 e) (finds vs ws p.1 z.1)
              | Greater ↦ λ e. find_other w (v ∷ vs) ws _ (below_first w.0 v.0 v.1 vs (back R o v.0 w.0 e) p.0) (finds (v ∷ vs) ws a z.1)
            ] refl

      -- the keys of two maps
      pub is_both : (m : FinMap R V) (n : FinMap R W) → IsBoth R m n (both R (map.entries m) (map.entries n))
      is_both m n = record {
        ascends = ascends _ _ (map.entries_sorted m) (map.entries_sorted n);
        each = λ k. finds k _ _ (map.entries_sorted m) (map.entries_sorted n)
            ∙ (λ i. pair_at (sym (map.get-entries m k) i) (sym (map.get-entries n k) i));
      }
