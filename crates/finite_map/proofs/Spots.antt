-- The place of a key in a chunk, and among all entries.
use Rattle.std.proofs.Common.{◌≡◌, ℕ, zero, suc, ◌+◌, ◌-◌, ◌<◌, ◌≤◌, List, [], ◌∷◌, ◌++◌, length, get_or, take, drop, Bool, true, false, inl, inr, refl, sym, ap, subst, ◌∙◌, arith}
use Rattle.std.specs.Prelude.{T, ◌&&◌, Result, Ok, Err, IfOk, IfErr}
use Rattle.std.specs.List.Sorted.{IsNonDecreasingBy, IsSearchInRange, IsBinarySearchResult}
use Rattle.std.specs.FinMap.{is_sorted}
use Rattle.std.specs.FinMap.Entries.{below_all}
use Rattle.std.specs.Ordering.{ordering_index}
use Rattle.std.specs.declared.cmp.Ordering.{Ordering}
use Rattle.std.specs.declared.cmp.Ordering.TheVariants.{Less, Equal, Greater}
use Rattle.std.specs.Cmp.{IsTotalOrder}
use Rattle.std.proofs.lemmas.Bool.{cases_lt}
use Rattle.std.proofs.lemmas.List.{get_or_default, get_or_past}
use Rattle.finite_map.specs.Sorted.{Sorted}
use Rattle.finite_map.specs.Places.{Gap, TiesAt, LessBefore, GreaterFrom}
use Rattle.finite_map.proofs.Edits.{true_T, T_true, split_both, answers_rise}
use Rattle.finite_map.proofs.Ranks.{place_ties, place_gap, ties_of, gap_of}
use Rattle.finite_map.specs.Chunks.{flat, chunk_at, before, IsShaped, StandsIn, IsChunkOf, first_order}
use Rattle.finite_map.proofs.Flats.{chunk_is, there, read_at, fits, before-suc, before_all, before-le, flat_around}

both : (a b : Bool) → T a → T b → T (a && b)
both true b h i = i
both false b h i = absurd h

pub head : {X : Type 0} (xs : List X) → 0 < length xs → X
head [] l = absurd (omega arith)
head (x ∷ xs) l = x

no_less : (r : Ordering) → ordering_index r ≤ 0 → r ≡ Less
no_less Less l = refl
no_less Equal l = absurd (omega arith)
no_less Greater l = absurd (omega arith)

no_more : (r : Ordering) → 2 ≤ ordering_index r → r ≡ Greater
no_more Less l = absurd (omega arith)
no_more Equal l = absurd (omega arith)
no_more Greater l = refl

module _ {K V : Type 0} (R : K → K → Ordering) where
  below-front : (x : K) (xs ys : List (K × V)) → T (below_all R x (xs ++ ys)) → T (below_all R x xs)
  below-front x [] ys t = tt
  below-front x (y ∷ xs) ys t = both _ _ (split_both _ _ t).0 (below-front x xs ys (split_both _ _ t).1)

  sorted-front : (xs ys : List (K × V)) → T (is_sorted R (xs ++ ys)) → T (is_sorted R xs)
  sorted-front [] ys t = tt
  sorted-front (x ∷ xs) ys t = both _ _ (below-front x.0 xs ys (split_both _ _ t).0) (sorted-front xs ys (split_both _ _ t).1)

  sorted-back : (xs ys : List (K × V)) → T (is_sorted R (xs ++ ys)) → T (is_sorted R ys)
  sorted-back [] ys t = t
  sorted-back (x ∷ xs) ys t = sorted-back xs ys (split_both _ _ t).1

  -- the order of the first key, where there is one
  first_is : (k : K) (es : List (K × V)) (d : K × V) → 0 < length es → first_order R k es ≡ R (get_or es 0 d).0 k
  first_is k [] d l = absurd (omega arith)
  first_is k (e ∷ es) d l = refl

  has_first : (k : K) (es : List (K × V)) (r : Ordering) → first_order R k es ≡ r → (r ≡ Greater → 0 < length es) → 0 < length es
  has_first k [] r e some = some (sym e)
  has_first k (x ∷ es) r e some = omega arith

module _ {K V : Type 0} (R : K → K → Ordering) (o : IsTotalOrder R) (cs : List (Sorted K V)) (s : is_sorted R (flat cs) ≡ true) (k : K) where
  -- each chunk is in order
  pub sorted_chunk : (i : ℕ) → i < length cs → is_sorted R (chunk_at cs i).entries ≡ true
  sorted_chunk i l =
      let all = subst (λ (es : List (K × V)). T (is_sorted R es)) (flat_around cs i l) (true_T s) in
      T_true _ (sorted-front R (chunk_at cs i).entries (flat (drop (suc i) cs)) (sorted-back R (flat (take i cs)) _ all))

  -- the place among all entries, and what stands there
  pub ties_in : (i j : ℕ) → StandsIn R cs k i (Ok j) → TiesAt R k (flat cs) (before cs i + j)
  ties_in i j stands = ties_of R o (flat cs) s k (before cs i + j) (sym stands.1)

  pub gap_in : (i j : ℕ) → StandsIn R cs k i (Err j) → (before cs i + j ≤ length (flat cs)) × Gap R k (flat cs) (before cs i + j)
  gap_in i j stands = gap_of R o (flat cs) s k (before cs i + j) (sym stands.1)

  -- a place in the chunk is the place in the map
  pub stands_ties : (i j : ℕ) → TiesAt R k (chunk_at cs i).entries j → StandsIn R cs k i (Ok j)
  stands_ties i j ties =
      let l = there cs i j ties.0 in
      let m = fits cs i l in
      (ties.0, sym (place_ties R o (flat cs) s k (before cs i + j) (omega (arith, m, ties.0), λ d. ap (λ e. R e.0 k) (read_at cs i j d ties.0) ∙ ties.1 d)))

  pub stands_gap : (i j : ℕ) → IsChunkOf R cs k i → j ≤ length (chunk_at cs i).entries → Gap R k (chunk_at cs i).entries j → before cs i + length (chunk_at cs i).entries ≤ length (flat cs) → StandsIn R cs k i (Err j)
  stands_gap i j of within gap fit = ((of.0, within), sym (place_gap R o (flat cs) s k (before cs i + j) (omega (arith, fit, within)) (low, high)))
    where
      low : LessBefore R k (flat cs) (before cs i + j)
      low n d l m = elim (cases_lt n (before cs i)) [
        | inl less ↦ of.1 n d l less
        | inr more ↦
            let same : before cs i + (n - before cs i) ≡ n = omega arith in
            let here : n - before cs i < j = omega arith in
            subst (λ (m : ℕ). R (get_or (flat cs) m d).0 k ≡ Less) same
            (ap (λ e. R e.0 k) (read_at cs i (n - before cs i) d (omega (arith, here, within))) ∙ gap.0 (n - before cs i) d (omega (arith, here, within)) here)
      ]

      high : GreaterFrom R k (flat cs) (before cs i + j)
      high n d l m = elim (cases_lt n (before cs (suc i))) [
        | inl less ↦
            let e = before-suc cs i in
            let same : before cs i + (n - before cs i) ≡ n = omega arith in
            let here : n - before cs i < length (chunk_at cs i).entries = omega (arith, e) in
            subst (λ (m : ℕ). R (get_or (flat cs) m d).0 k ≡ Greater) same
            (ap (λ e. R e.0 k) (read_at cs i (n - before cs i) d here) ∙ gap.1 (n - before cs i) d (omega arith) here)
        | inr more ↦ of.2 n d more m
      ]

  -- and so is what a search in the chunk found
  pub stands_within : (i : ℕ) (b : Sorted K V) → IsChunkOf R cs k i → i < length cs → get_or cs i b ≡ b → (r : Result ℕ ℕ) → IsSearchInRange r (length b.entries) → IfOk r (TiesAt R k b.entries) → IfErr r (Gap R k b.entries) → StandsIn R cs k i r
  stands_within i b of l read (Ok j) within ties gap = stands_ties i j (subst (λ (c : Sorted K V). TiesAt R k c.entries j) (sym (chunk_is cs i b l read)) ties)
  stands_within i b of l read (Err j) within ties gap =
      let is = sym (chunk_is cs i b l read) in
      stands_gap i j of (subst (λ (c : Sorted K V). j ≤ length c.entries) is within) (subst (λ (c : Sorted K V). Gap R k c.entries j) is gap) (fits cs i l)

  -- where there is no chunk, each key goes first
  pub stands_past : (i : ℕ) → IsChunkOf R cs k i → length cs ≤ i → StandsIn R cs k i (Err 0)
  stands_past i of l =
      let all = before_all cs i l in
      let none = ap (λ (c : Sorted K V). length c.entries) (get_or_past cs i (record { entries = []; capacity = 0 }) l) in
      stands_gap i 0 of (omega arith) (λ j d m less. absurd (omega (arith, less)), λ j d more m. absurd (omega (arith, m, none))) (omega (arith, all, none))

  -- the order of a chunk's first key is that of its first entry among all
  first_read : (i : ℕ) (d : K × V) → 0 < length (chunk_at cs i).entries → first_order R k (chunk_at cs i).entries ≡ R (get_or (flat cs) (before cs i) d).0 k
  first_read i d some =
      let same : before cs i + 0 ≡ before cs i = omega arith in
      first_is R k (chunk_at cs i).entries d some
      ∙ ap (λ e. R e.0 k) (sym (read_at cs i 0 d some))
      ∙ ap (λ n. R (get_or (flat cs) n d).0 k) same

  firsts_rise : (most : ℕ) → IsShaped cs most → IsNonDecreasingBy (λ c. ordering_index (first_order R k c.entries)) cs
  firsts_rise most shaped i j d le lt = elim (cases_lt i j) [
    | inl below ↦
        let a = (shaped i (record { entries = []; capacity = 0 }) (omega (arith, below, lt))).1 (omega (arith, below, lt)) in
        let b = (shaped j (record { entries = []; capacity = 0 }) lt).1 (omega (arith, below, lt)) in
        let e = head _ a in
        let m = fits cs j lt in
        let rise = answers_rise R o k (flat cs) (true_T s) (before cs i) (before cs j) e (before-le cs i j le) (omega (arith, m, b)) in
        let left = ap ordering_index (first_read i e a) in
        let right = ap ordering_index (first_read j e b) in
        let all : ordering_index (first_order R k (chunk_at cs i).entries) ≤ ordering_index (first_order R k (chunk_at cs j).entries) = omega (arith, rise, left, right) in
        subst (λ (c : Sorted K V). ordering_index (first_order R k c.entries) ≤ ordering_index (first_order R k (get_or cs j d).entries)) (get_or_default cs i _ d (omega (arith, below, lt)))
        (subst (λ (c : Sorted K V). ordering_index (first_order R k (chunk_at cs i).entries) ≤ ordering_index (first_order R k c.entries)) (get_or_default cs j _ d lt) all)
    | inr same ↦ let e : i ≡ j = omega arith in subst (λ (m : ℕ). ordering_index (first_order R k (get_or cs i d).entries) ≤ ordering_index (first_order R k (get_or cs m d).entries)) e (omega arith)
  ]

  lower : (i : ℕ) → i < length cs → first_order R k (chunk_at cs i).entries ≡ Less → LessBefore R k (flat cs) (before cs i)
  lower i l first n d m less =
      let some = has_first R k _ Less first (λ e. absurd (cc)) in
      let fit = fits cs i l in
      let rise = answers_rise R o k (flat cs) (true_T s) n (before cs i) d (omega (arith, less)) (omega (arith, fit, some)) in
      let at = ap ordering_index (sym (first_read i d some) ∙ first) in
      no_less _ (rw at at rise)

  upper : (most i : ℕ) → IsShaped cs most → (suc i < length cs → first_order R k (chunk_at cs (suc i)).entries ≡ Greater) → GreaterFrom R k (flat cs) (before cs (suc i))
  upper most i shaped first n d more l = elim (cases_lt (suc i) (length cs)) [
    | inl m ↦
        let some = (shaped (suc i) (record { entries = []; capacity = 0 }) m).1 (omega (arith, m)) in
        let rise = answers_rise R o k (flat cs) (true_T s) (before cs (suc i)) n d more l in
        let at = ap ordering_index (sym (first_read (suc i) d some) ∙ first m) in
        no_more _ (rw at at rise)
    | inr m ↦ let all = before_all cs (suc i) m in absurd (omega (arith, all, more, l))
  ]

  -- a search among the first keys finds the key, or the chunk behind the one that it is to go to
  pub searched_chunks : (most : ℕ) → IsShaped cs most → (r : Result ℕ ℕ) → IsSearchInRange r (length cs) → IsBinarySearchResult (λ c. first_order R k c.entries) cs r → IfOk r (λ i. StandsIn R cs k i (Ok 0)) × IfErr r (λ i. IsChunkOf R cs k (i - 1))
  searched_chunks most shaped (Ok i) l equal =
      let first = equal (record { entries = []; capacity = 0 }) in
      let some = has_first R k _ Equal first (λ e. absurd (cc)) in
      (stands_ties i 0 (some, λ d. sym (first_is R k _ d some) ∙ first), tt)
  searched_chunks most shaped (Err zero) l parted =
      let p = parted (firsts_rise most shaped) in
      let up = upper most 0 shaped (λ m. p.1 1 (record { entries = []; capacity = 0 }) (omega arith) m) in
      (tt, (omega arith, (λ n d m less. absurd (omega (arith, less))), up))
  searched_chunks most shaped (Err (suc i)) l parted =
      let p = parted (firsts_rise most shaped) in
      let first = p.0 i (record { entries = []; capacity = 0 }) (omega arith) (omega arith) in
      let up = upper most i shaped (λ m. p.1 (suc i) (record { entries = []; capacity = 0 }) (omega arith) m) in
      let same : i ≡ suc i - 1 = omega arith in
      (tt, subst (IsChunkOf R cs k) same (omega (arith, l), lower i (omega (arith, l)) first, up))
