-- The place of a key in a map, and its place in the list of the entries.
use Rattle.std.proofs.Common.{◌≡◌, ℕ, zero, suc, ◌+◌, ◌<◌, ◌≤◌, Bool, true, false, cond, List, [], ◌∷◌, length, get_or}
use Rattle.std.proofs.Common.{Option, Some, None, refl, sym, ap, subst, ◌∙◌, arith, add-one}
use Rattle.std.specs.Prelude.{T, ◌≢◌, is_some, is_ok, Result, Ok, Err, IfOk, IfErr}
use Rattle.std.specs.List.Sorted.{IsSearchInRange}
use Rattle.std.specs.FinMap as map
use Rattle.std.specs.FinMap.{is_sorted, get-from_sorted, get-empty}
use Rattle.std.specs.FinMap.Entries.{find}
use Rattle.std.specs.Ordering.{is_lt}
use Rattle.std.specs.declared.cmp.Ordering.{Ordering}
use Rattle.std.specs.declared.cmp.Ordering.TheVariants.{Less, Equal, Greater}
use Rattle.std.specs.Cmp.{IsTotalOrder, alike_right}
use Rattle.finite_map.specs.Places.{Gap, TiesAt, rank, place_in}
use Rattle.finite_map.proofs.Edits.{true_T, split_both, turned, back, below_each, find_at, find_gap, gap_tail}
use Rattle.finite_map.proofs.Maps.{entries_are, get_gap, from_nil}

-- a key is found at a place of the list, or there is a gap for it
abbrev Located : {K X : Type 0} → (K → K → Ordering) → K → List (K × X) → Result ℕ ℕ → Type 0
Located R k es r = IfOk r (TiesAt R k es) × IfErr r (λ i. (i ≤ length es) × Gap R k es i)

module _ {K X : Type 0} (R : K → K → Ordering) (o : IsTotalOrder R) (k : K) where
  rank_at : (es : List (K × X)) → T (is_sorted R es) → (i : ℕ) (d : K × X) → i < length es → R (get_or es i d).0 k ≡ Equal → rank R k es ≡ i
  rank_at [] s i d lt e = absurd (omega arith)
  rank_at (x ∷ es) s zero d lt e = rw e refl
  rank_at (x ∷ es) s (suc i) d lt e =
      let less : R x.0 k ≡ Less = sym (alike_right o _ k x.0 e) ∙ below_each R o x.0 es (split_both _ _ s).0 i d (omega arith) in
      rw less (add-one _ ∙ ap suc (rank_at es (split_both _ _ s).1 i d (omega arith) e))

  rank_gap : (es : List (K × X)) (i : ℕ) → i ≤ length es → Gap R k es i → rank R k es ≡ i
  rank_gap [] i le g = omega arith
  rank_gap (x ∷ es) zero le g = rw (g.1 0 x (omega arith) (omega arith)) refl
  rank_gap (x ∷ es) (suc i) le g =
      rw (g.0 0 x (omega arith) (omega arith)) (add-one _ ∙ ap suc (rank_gap es i (omega arith) (gap_tail R o k x es i g)))

  -- the key of the head is greater, and so are all that follow
  gap_first : (x : K × X) (es : List (K × X)) → T (is_sorted R (x ∷ es)) → R x.0 k ≡ Greater → Gap R k (x ∷ es) 0
  gap_first x es s e = (λ j d lt l. absurd (omega arith), later)
    where
      later : (j : ℕ) (d : K × X) → 0 ≤ j → j < length (x ∷ es) → R (get_or (x ∷ es) j d).0 k ≡ Greater
      later zero d l lt = e
      later (suc j) d l lt =
          let y = (get_or es j d).0 in
          let above = o.trans k x.0 y (back R o x.0 k e) (below_each R o x.0 es (split_both _ _ s).0 j d (omega arith)) in
          turned R o k y above

  further : (x : K × X) (es : List (K × X)) (r : Result ℕ ℕ) → R x.0 k ≡ Less → Located R k es r → (q : Result ℕ ℕ) × Located R k (x ∷ es) q
  further x es (Ok i) e f = (Ok (suc i), ((omega arith, λ d. f.0.1 d), tt))
  further x es (Err i) e f = (Err (suc i), (tt, (omega arith, (before, after))))
    where
      before : (j : ℕ) (d : K × X) → j < length (x ∷ es) → j < suc i → R (get_or (x ∷ es) j d).0 k ≡ Less
      before zero d lt l = e
      before (suc j) d lt l = f.1.1.0 j d (omega arith) (omega arith)

      after : (j : ℕ) (d : K × X) → suc i ≤ j → j < length (x ∷ es) → R (get_or (x ∷ es) j d).0 k ≡ Greater
      after zero d l lt = absurd (omega arith)
      after (suc j) d l lt = f.1.1.1 j d (omega arith) (omega arith)

  located : (es : List (K × X)) → T (is_sorted R es) → (r : Result ℕ ℕ) × Located R k es r
  located [] s = (Err 0, (tt, (omega arith, (λ j d lt l. absurd (omega arith), λ j d l lt. absurd (omega arith)))))
  located (x ∷ es) s = elim (R x.0 k) as (λ q. R x.0 k ≡ q → (r : Result ℕ ℕ) × Located R k (x ∷ es) r) [
    | Less ↦ λ e. let rest = located es (split_both _ _ s).1 in further x es rest.0 e rest.1
    | Equal ↦ λ e. (Ok 0, ((omega arith, λ d. e), tt))
    | Greater ↦ λ e. (Err 0, (tt, (omega arith, gap_first x es s e)))
  ] refl

module _ {K V : Type 0} (R : K → K → Ordering) (o : IsTotalOrder R) (es : List (K × V)) (s : is_sorted R es ≡ true) (k : K) where
  -- the place by what the map has at the key, and how many keys are less
  placed : (there : Bool) (at : ℕ) → is_some (map.get (map.from_sorted {R = R} es) k) ≡ there → rank R k es ≡ at
      → place_in (map.from_sorted {R = R} es) k ≡ cond there (Ok at) (Err at)
  unfolding place_in
  placed there at e f = rw (entries_are R o es s, f, e) refl

  found : (fs : List (K × V)) → T (is_sorted R fs) → (i : ℕ) → TiesAt R k fs i → is_some (find R k fs) ≡ true
  found [] t i ties = absurd (omega arith)
  found (x ∷ fs) t i ties = ap is_some (find_at R o k (x ∷ fs) t i x ties.0 (ties.1 x))

  ranked : (fs : List (K × V)) → T (is_sorted R fs) → (i : ℕ) → TiesAt R k fs i → rank R k fs ≡ i
  ranked [] t i ties = absurd (omega arith)
  ranked (x ∷ fs) t i ties = rank_at R o k (x ∷ fs) t i x ties.0 (ties.1 x)

  pub place_ties : (at : ℕ) → TiesAt R k es at → place_in (map.from_sorted {R = R} es) k ≡ Ok at
  place_ties at ties = placed true at (ap is_some (get-from_sorted R es k (true_T s)) ∙ found es (true_T s) at ties) (ranked es (true_T s) at ties)

  pub place_gap : (at : ℕ) → at ≤ length es → Gap R k es at → place_in (map.from_sorted {R = R} es) k ≡ Err at
  place_gap at within gap = placed false at (ap is_some (get_gap R o es s k at gap)) (rank_gap R o k es at within gap)

  -- what a search found is the place
  pub place_by : (r : Result ℕ ℕ) → IsSearchInRange r (length es) → IfOk r (TiesAt R k es) → IfErr r (Gap R k es)
      → r ≡ place_in (map.from_sorted {R = R} es) k
  place_by (Ok at) within ties gap = sym (place_ties at ties)
  place_by (Err at) within ties gap = sym (place_gap at within gap)

  -- and what a place says of the list
  pub ties_of : (at : ℕ) → place_in (map.from_sorted {R = R} es) k ≡ Ok at → TiesAt R k es at
  ties_of at e = let p = located R o k es (true_T s) in by p.0 p.1
    where
      by : (r : Result ℕ ℕ) → Located R k es r → TiesAt R k es at
      by (Ok i) f = let same : i ≡ at = cc (place_ties i f.0, e) in subst (TiesAt R k es) same f.0
      by (Err i) f = absurd (cc (place_gap i f.1.0 f.1.1, e))

  pub gap_of : (at : ℕ) → place_in (map.from_sorted {R = R} es) k ≡ Err at → (at ≤ length es) × Gap R k es at
  gap_of at e = let p = located R o k es (true_T s) in by p.0 p.1
    where
      by : (r : Result ℕ ℕ) → Located R k es r → (at ≤ length es) × Gap R k es at
      by (Ok i) f = absurd (cc (place_ties i f.0, e))
      by (Err i) f = let same : i ≡ at = cc (place_gap i f.1.0 f.1.1, e) in subst (λ j. (j ≤ length es) × Gap R k es j) same f.1

-- a key has a place where the map has the key
pub place_there : {K V : Type 0} {R : K → K → Ordering} (m : map.FinMap R V) (k : K) → is_ok (place_in m k) ≡ is_some (map.get m k)
unfolding place_in
place_there {R = R} m k = elim (is_some (map.get m k)) as (λ b. is_ok (cond b (Ok (rank R k (map.entries m))) (Err (rank R k (map.entries m)))) ≡ b) [ true ↦ refl | false ↦ refl ]

none_of : {A : Type 0} (x : Option A) → is_some x ≡ false → x ≡ None
none_of None e = refl
none_of (Some v) e = absurd (cc)

-- at a gap the map has nothing
pub none_at : {K V : Type 0} {R : K → K → Ordering} (m : map.FinMap R V) (k : K) (place : Result ℕ ℕ) (at : ℕ)
    → place ≡ place_in m k → place ≡ Err at → map.get m k ≡ None
none_at m k place at e is = none_of (map.get m k) (sym (place_there m k) ∙ ap is_ok (sym e ∙ is))

-- and elsewhere something
pub some_at : {K V : Type 0} {R : K → K → Ordering} (m : map.FinMap R V) (k : K) (place : Result ℕ ℕ) (at : ℕ)
    → place ≡ place_in m k → place ≡ Ok at → map.get m k ≢ None
some_at m k place at e is none =
    let same : true ≡ false = ap is_ok (sym is ∙ e) ∙ place_there m k ∙ ap is_some none in
    absurd (cc)

-- in an empty map each key goes first
pub place_empty : {K : Type 0} (V : Type 0) (R : K → K → Ordering) → IsTotalOrder R → (k : K) → place_in (map.empty {X = V} {R = R}) k ≡ Err 0
place_empty {K} V R o k =
    let nothing : List (K × V) = [] in
    subst (λ (m : map.FinMap R V). place_in m k ≡ Err 0) (from_nil R)
    (place_gap R o nothing refl k 0 (omega arith) (λ j d lt l. absurd (omega arith), λ j d l lt. absurd (omega arith)))
