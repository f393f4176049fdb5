-- The piece of a key, by a search among the first keys of the pieces behind the first.
use Rattle.std.proofs.Common.{◌≡◌, ℕ, zero, suc, ◌+◌, ◌<◌, ◌≤◌, List, [], ◌∷◌, length, get_or, drop, true, inl, inr, refl, sym, ap, subst, ◌∙◌, arith}
use Rattle.std.specs.Prelude.{Result, Ok, Err, IfOk, IfErr}
use Rattle.std.specs.List.Sorted.{IsNonDecreasingBy, IsSearchInRange, IsBinarySearchResult}
use Rattle.std.specs.FinMap.{is_sorted}
use Rattle.std.specs.Ordering.{ordering_index}
use Rattle.std.specs.declared.cmp.Ordering.{Ordering}
use Rattle.std.specs.declared.cmp.Ordering.TheVariants.{Less, Equal, Greater}
use Rattle.std.specs.Cmp.{IsTotalOrder}
use Rattle.std.proofs.lemmas.Bool.{cases_lt}
use Rattle.std.proofs.lemmas.List.{get_or_default}
use Rattle.finite_map.specs.Sorted.{Sorted}
use Rattle.finite_map.specs.Places.{TiesAt, Gap, LessBefore, GreaterFrom}
use Rattle.finite_map.proofs.Edits.{true_T, answers_rise}
use Rattle.finite_map.specs.Chunks.{flat, chunk_at, before, IsShaped, StandsIn, first_order}
use Rattle.finite_map.proofs.Flats.{read_at, fits, before_all, before-le}
use Rattle.finite_map.proofs.Spots.{head, stands_ties, stands_within}
use Rattle.sorted_vec.specs.Sorted.{IsPieceOf, IsBehindOthers}

pub no_less : (r : Ordering) → ordering_index r ≤ 0 → r ≡ Less
no_less Less l = refl
no_less Equal l = absurd (omega arith)
no_less Greater l = absurd (omega arith)

pub no_more : (r : Ordering) → 2 ≤ ordering_index r → r ≡ Greater
no_more Less l = absurd (omega arith)
no_more Equal l = absurd (omega arith)
no_more Greater l = refl

module _ {K V : Type 0} (R : K → K → Ordering) where
  -- the order of the first key, where there is one
  pub first_is : (k : K) (es : List (K × V)) (d : K × V) → 0 < length es → first_order R k es ≡ R (get_or es 0 d).0 k
  first_is k [] d l = absurd (omega arith)
  first_is k (e ∷ es) d l = refl

  has_first : (k : K) (es : List (K × V)) (r : Ordering) → first_order R k es ≡ r → (r ≡ Greater → 0 < length es) → 0 < length es
  has_first k [] r e some = some (sym e)
  has_first k (x ∷ es) r e some = omega arith

module _ {K V : Type 0} (R : K → K → Ordering) (o : IsTotalOrder R) (cs : List (Sorted K V)) (s : is_sorted R (flat cs) ≡ true) (k : K) where
  -- the order of a piece's first key is that of its first entry among all
  first_read : (i : ℕ) (d : K × V) → 0 < length (chunk_at cs i).entries → first_order R k (chunk_at cs i).entries ≡ R (get_or (flat cs) (before cs i) d).0 k
  first_read i d some =
      let same : before cs i + 0 ≡ before cs i = omega arith in
      first_is R k (chunk_at cs i).entries d some
      ∙ ap (λ e. R e.0 k) (sym (read_at cs i 0 d some))
      ∙ ap (λ n. R (get_or (flat cs) n d).0 k) same

  firsts_rise : (most : ℕ) → IsShaped cs most → IsNonDecreasingBy (λ c. ordering_index (first_order R k c.entries)) cs
  firsts_rise most shaped i j d le lt = elim (cases_lt i j) [
    | inl below ↦
        let a = (shaped i (record { entries = []; capacity = 0 }) (omega (arith, below, lt))).1 (omega (arith, below, lt)) in
        let b = (shaped j (record { entries = []; capacity = 0 }) lt).1 (omega (arith, below, lt)) in
        let e = head _ a in
        let m = fits cs j lt in
        let rise = answers_rise R o k (flat cs) (true_T s) (before cs i) (before cs j) e (before-le cs i j le) (omega (arith, m, b)) in
        let left = ap ordering_index (first_read i e a) in
        let right = ap ordering_index (first_read j e b) in
        let all : ordering_index (first_order R k (chunk_at cs i).entries) ≤ ordering_index (first_order R k (chunk_at cs j).entries) = omega (arith, rise, left, right) in
        subst (λ (c : Sorted K V). ordering_index (first_order R k c.entries) ≤ ordering_index (first_order R k (get_or cs j d).entries)) (get_or_default cs i _ d (omega (arith, below, lt)))
        (subst (λ (c : Sorted K V). ordering_index (first_order R k (chunk_at cs i).entries) ≤ ordering_index (first_order R k c.entries)) (get_or_default cs j _ d lt) all)
    | inr same ↦ let e : i ≡ j = omega arith in subst (λ (m : ℕ). ordering_index (first_order R k (get_or cs i d).entries) ≤ ordering_index (first_order R k (get_or cs m d).entries)) e (omega arith)
  ]

  lower : (i : ℕ) → i < length cs → first_order R k (chunk_at cs i).entries ≡ Less → LessBefore R k (flat cs) (before cs i)
  lower i l first n d m less =
      let some = has_first R k _ Less first (λ e. absurd (cc)) in
      let fit = fits cs i l in
      let rise = answers_rise R o k (flat cs) (true_T s) n (before cs i) d (omega (arith, less)) (omega (arith, fit, some)) in
      let at = ap ordering_index (sym (first_read i d some) ∙ first) in
      no_less _ (rw at at rise)

  pub upper : (most i : ℕ) → IsShaped cs most → (suc i < length cs → first_order R k (chunk_at cs (suc i)).entries ≡ Greater) → GreaterFrom R k (flat cs) (before cs (suc i))
  upper most i shaped first n d more l = elim (cases_lt (suc i) (length cs)) [
    | inl m ↦
        let some = (shaped (suc i) (record { entries = []; capacity = 0 }) m).1 (omega (arith, m)) in
        let rise = answers_rise R o k (flat cs) (true_T s) (before cs (suc i)) n d more l in
        let at = ap ordering_index (sym (first_read (suc i) d some) ∙ first m) in
        no_more _ (rw at at rise)
    | inr m ↦ let all = before_all cs (suc i) m in absurd (omega (arith, all, more, l))
  ]

  -- a piece whose first key is the key
  tied_first : (i : ℕ) → first_order R k (chunk_at cs i).entries ≡ Equal → StandsIn R cs k i (Ok 0)
  tied_first i first =
      let some = has_first R k _ Equal first (λ e. absurd (cc)) in
      stands_ties R o cs s k i 0 (some, λ d. sym (first_is R k _ d some) ∙ first)

  -- a piece whose first key is less, or the first, where the first key of the next is greater
  between : (most i : ℕ) → IsShaped cs most → i < length cs → (0 < i → first_order R k (chunk_at cs i).entries ≡ Less)
      → (suc i < length cs → first_order R k (chunk_at cs (suc i)).entries ≡ Greater) → IsPieceOf R cs k i
  between most zero shaped l less more =
      (l, (omega arith, (λ n d m before. absurd (omega arith)), upper most 0 shaped more), less)
  between most (suc i) shaped l less more =
      (l, (omega arith, lower (suc i) l (less (omega arith)), upper most (suc i) shaped more), less)

  -- what a search in the piece of the key found
  pub found_within : (i : ℕ) (b : Sorted K V) → IsPieceOf R cs k i → chunk_at cs i ≡ b → (r : Result ℕ ℕ)
      → IsSearchInRange r (length b.entries) → IfOk r (TiesAt R k b.entries) → IfErr r (Gap R k b.entries)
      → StandsIn R cs k i r × IsBehindOthers i r
  found_within i b of is r within ties gap =
      let read = sym (get_or_default cs i (record { entries = []; capacity = 0 }) b of.0) ∙ is in
      (stands_within R o cs s k i b of.1 of.0 read r within ties gap, behind r gap)
    where
      behind : (r : Result ℕ ℕ) → IfErr r (Gap R k b.entries) → IsBehindOthers i r
      behind (Ok at) gap = tt
      behind (Err at) gap = λ none. elim (cases_lt 0 i) [
        | inl later ↦
            let less = of.2 later in
            let first = ap (λ (c : Sorted K V). first_order R k c.entries) (sym is) ∙ less in
            let some = has_first R k _ Less first (λ e. absurd (cc)) in
            let d = head _ some in
            let more : R (get_or b.entries 0 d).0 k ≡ Greater = gap.1 0 d (omega arith) some in
            let e : Less ≡ Greater = sym first ∙ first_is R k b.entries d some ∙ more in
            absurd (cc)
        | inr first ↦ omega arith
      ]

module _ {K V : Type 0} (R : K → K → Ordering) (o : IsTotalOrder R) (f : Sorted K V) (os : List (Sorted K V)) (s : is_sorted R (flat (f ∷ os)) ≡ true) (k : K) where
  others_rise : (most : ℕ) → IsShaped (f ∷ os) most → IsNonDecreasingBy (λ c. ordering_index (first_order R k c.entries)) os
  others_rise most shaped i j d le lt = firsts_rise R o (f ∷ os) s k most shaped (suc i) (suc j) d (omega arith) (omega arith)

  searched_others : (most : ℕ) → IsShaped (f ∷ os) most → (r : Result ℕ ℕ) → IsSearchInRange r (length os)
      → IsBinarySearchResult (λ c. first_order R k c.entries) os r
      → IfOk r (λ i. (StandsIn R (f ∷ os) k (i + 1) (Ok 0) × Unit {0}) × (i + 1 < length (f ∷ os))) × IfErr r (IsPieceOf R (f ∷ os) k)
  searched_others most shaped (Ok i) l equal =
      let same : suc i ≡ i + 1 = omega arith in
      let stands = tied_first R o (f ∷ os) s k (suc i) (equal (record { entries = []; capacity = 0 })) in
      (((subst (λ (n : ℕ). StandsIn R (f ∷ os) k n (Ok 0)) same stands, tt), omega (arith, l)), tt)
  searched_others most shaped (Err zero) l parted =
      let p = parted (others_rise most shaped) in (
        tt,
        between R o (f ∷ os) s k most 0 shaped (omega arith) (λ later. absurd (omega arith))
            (λ m. p.1 0 (record { entries = []; capacity = 0 }) (omega arith) (omega arith)),
      )
  searched_others most shaped (Err (suc i)) l parted =
      let p = parted (others_rise most shaped) in (
        tt,
        between R o (f ∷ os) s k most (suc i) shaped (omega (arith, l))
            (λ later. p.0 i (record { entries = []; capacity = 0 }) (omega arith) (omega arith))
            (λ m. p.1 (suc i) (record { entries = []; capacity = 0 }) (omega arith) (omega arith)),
      )

module _ {K V : Type 0} (R : K → K → Ordering) (o : IsTotalOrder R) (k : K) where
  -- a search among the pieces behind the first finds the key, or the piece for it
  pub searched_behind : (cs : List (Sorted K V)) → is_sorted R (flat cs) ≡ true → 0 < length cs → (most : ℕ) → IsShaped cs most
      → (r : Result ℕ ℕ) → IsSearchInRange r (length (drop 1 cs)) → IsBinarySearchResult (λ c. first_order R k c.entries) (drop 1 cs) r
      → IfOk r (λ i. (StandsIn R cs k (i + 1) (Ok 0) × Unit {0}) × (i + 1 < length cs)) × IfErr r (IsPieceOf R cs k)
  searched_behind [] s some most shaped r within parted = absurd (omega arith)
  searched_behind (f ∷ os) s some most shaped r within parted = searched_others R o f os s k most shaped r within parted
