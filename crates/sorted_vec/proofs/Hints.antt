-- That a key would go to a place, by the entries around it.
use Rattle.std.proofs.Common.{◌≡◌, ℕ, suc, ◌+◌, ◌-◌, ◌<◌, ◌≤◌, true, List, [], ◌∷◌, length, drop, get_or, refl, sym, ap, subst, ◌∙◌, arith}
use Rattle.std.specs.Prelude.{Err}
use Rattle.std.specs.FinMap.{is_sorted}
use Rattle.std.specs.Ordering.{ordering_index, is_lt, is_gt}
use Rattle.std.specs.declared.cmp.Ordering.{Ordering}
use Rattle.std.specs.declared.cmp.Ordering.TheVariants.{Less, Equal, Greater}
use Rattle.std.specs.Cmp.{IsTotalOrder}
use Rattle.std.proofs.lemmas.List.{get_or_default}
use Rattle.finite_map.specs.Sorted.{Sorted}
use Rattle.finite_map.specs.Places.{LessBefore, GreaterFrom}
use Rattle.finite_map.specs.Chunks.{flat, chunk_at, before, IsShaped, StandsIn, first_order}
use Rattle.finite_map.proofs.Edits.{true_T, answers_rise}
use Rattle.finite_map.proofs.Flats.{read_at, fits, before-suc, there}
use Rattle.finite_map.proofs.Ranks.{place_gap}
use Rattle.sorted_vec.specs.Sorted.{IsBehindLess}
use Rattle.sorted_vec.proofs.Search.{no_less, no_more, upper}

module _ {K V : Type 0} (R : K → K → Ordering) (o : IsTotalOrder R) (cs : List (Sorted K V)) (s : is_sorted R (flat cs) ≡ true) (k : K) (i at : ℕ) where
  -- the entry before the place has a lesser key
  pub less_before : (d : K × V) → 0 < at → at ≤ length (chunk_at cs i).entries → R (get_or (chunk_at cs i).entries (at - 1) d).0 k ≡ Less → LessBefore R k (flat cs) (before cs i + at)
  less_before d l m less n e lt below =
      let es = (chunk_at cs i).entries in
      let p = before cs i + (at - 1) in
      let here : at - 1 < length es = omega (arith, l, m) in
      let fit = fits cs i (there cs i (at - 1) here) in
      let rise = answers_rise R o k (flat cs) (true_T s) n p e (omega (arith, l, below)) (omega (arith, fit, here)) in
      let read : R (get_or (flat cs) p e).0 k ≡ Less = ap (λ x. R x.0 k) (read_at cs i (at - 1) e here ∙ get_or_default es (at - 1) e d here) ∙ less in
      no_less _ (rw (ap ordering_index read) at rise)

  -- the entry at the place has a greater key
  pub greater_from : (d : K × V) → at < length (chunk_at cs i).entries → R (get_or (chunk_at cs i).entries at d).0 k ≡ Greater → GreaterFrom R k (flat cs) (before cs i + at)
  greater_from d l more n e le lt =
      let es = (chunk_at cs i).entries in
      let p = before cs i + at in
      let rise = answers_rise R o k (flat cs) (true_T s) p n e le lt in
      let read : R (get_or (flat cs) p e).0 k ≡ Greater = ap (λ x. R x.0 k) (read_at cs i at e l ∙ get_or_default es at e d l) ∙ more in
      no_more _ (rw (ap ordering_index read) at rise)

  -- so has the first of the next piece, where the place is at the end of one
  pub greater_behind : (most : ℕ) → IsShaped cs most → length (chunk_at cs i).entries ≡ at → (suc i < length cs → first_order R k (chunk_at cs (suc i)).entries ≡ Greater)
      → GreaterFrom R k (flat cs) (before cs i + at)
  greater_behind most shaped end first =
      let next = before-suc cs i in
      let here : before cs (suc i) ≡ before cs i + at = omega (arith, next, end) in
      subst (GreaterFrom R k (flat cs)) here (upper R o cs s k most i shaped first)

  pub gap_between : IsBehindLess R cs k i at → GreaterFrom R k (flat cs) (before cs i + at) → StandsIn R cs k i (Err at) × (at ≡ 0 → i ≡ 0)
  gap_between low high =
      let fit = fits cs i low.0 in
      (((omega (arith, low.0), low.1), sym (place_gap R o (flat cs) s k (before cs i + at) (omega (arith, fit, low.1)) (low.2, high))), low.3)

-- what a test of an order says
pub is_less : (r : Ordering) → is_lt r ≡ true → r ≡ Less
is_less Less e = refl
is_less Equal e = absurd (cc)
is_less Greater e = absurd (cc)

pub is_more : (r : Ordering) → is_gt r ≡ true → r ≡ Greater
is_more Less e = absurd (cc)
is_more Equal e = absurd (cc)
is_more Greater e = refl

-- the next piece, among those behind the first
pub next_is : {K V : Type 0} (cs os : List (Sorted K V)) (i : ℕ) (b : Sorted K V) → os ≡ drop 1 cs → i < length os → get_or os i b ≡ b → chunk_at cs (suc i) ≡ b
next_is [] os i b e l read = let n = ap length e in absurd (omega (arith, n, l))
next_is (c ∷ cs) os i b e l read = ap (λ x. chunk_at x i) (sym e) ∙ get_or_default os i _ b l ∙ read
