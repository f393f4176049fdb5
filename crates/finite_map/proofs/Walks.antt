-- How a walk goes on.
use Rattle.std.proofs.Common.{◌≡◌, ℕ, suc, ◌+◌, ◌<◌, ◌≤◌, List, [], ◌∷◌, length, get_or, drop, true, Option, Some, None, inl, inr, refl, sym, ap, ◌∙◌, arith}
use Rattle.std.specs.Prelude.{min, IfSome}
use Rattle.std.specs.Borrow.{Bor}
use Rattle.std.specs.FinMap as map
use Rattle.std.specs.FinMap.{is_sorted}
use Rattle.std.specs.declared.cmp.Ordering.{Ordering}
use Rattle.std.specs.Cmp.{IsTotalOrder}
use Rattle.std.proofs.lemmas.Bool.{cases_lt}
use Rattle.std.proofs.lemmas.List.{drop_more, drop_all}
use Rattle.finite_map.specs.Sorted.{Sorted}
use Rattle.finite_map.proofs.Maps.{entries_are}
use Rattle.finite_map.specs.Chunks.{flat, chunk_at, before, chunked, rest_from, IsShaped}
use Rattle.finite_map.specs.Maps.{GoesOn}
use Rattle.finite_map.proofs.Flats.{there, read_at, fits, before-suc, before_all}

module _ {K V : Type 0} (R : K → K → Ordering) (o : IsTotalOrder R) (cs : List (Sorted K V)) (s : is_sorted R (flat cs) ≡ true) (i : ℕ) where
  row : (n at : ℕ) → before cs i + min at (length (chunk_at cs i).entries) ≡ n → rest_from R cs i at ≡ drop n (flat cs)
  row n at e = ap (λ m. drop m (map.entries (chunked R cs))) e ∙ ap (drop n) (entries_are R o (flat cs) s)

  -- an entry, and the rest behind it
  pub step_on : (at : ℕ) (e : K × V) → at < length (chunk_at cs i).entries → get_or (chunk_at cs i).entries at e ≡ e → rest_from R cs i at ≡ (e.0, e.1) ∷ rest_from R cs i (at + 1)
  step_on at e l read =
      let n = before cs i + at in
      let m = fits cs i (there cs i at l) in
      row n at (omega (arith, l))
      ∙ drop_more (flat cs) n e (omega (arith, l, m))
      ∙ ap (λ x. x ∷ drop (n + 1) (flat cs)) (read_at cs i at e l ∙ read)
      ∙ ap (λ t. e ∷ t) (sym (row (n + 1) (at + 1) (omega (arith, l))))

  -- behind the last of a chunk comes the first of the next
  pub next_chunk : (at : ℕ) → length (chunk_at cs i).entries ≤ at → rest_from R cs i at ≡ rest_from R cs (suc i) 0
  next_chunk at l =
      let next = before-suc cs i in
      row (before cs (suc i)) at (omega (arith, l, next))
      ∙ sym (ap (λ m. drop m (map.entries (chunked R cs))) (start (before cs (suc i)) _) ∙ ap (drop (before cs (suc i))) (entries_are R o (flat cs) s))
    where
      start : (n m : ℕ) → n + min 0 m ≡ n
      start n m = omega arith

  -- behind the last chunk is nothing
  pub at_end : (at : ℕ) → length cs ≤ i → rest_from R cs i at ≡ []
  at_end at l =
      let n = before cs i + min at (length (chunk_at cs i).entries) in
      let all = before_all cs i l in
      row n at refl ∙ drop_all n (flat cs) (omega (arith, all))

  -- no chunk behind the first is empty
  pub none_left : (most : ℕ) → IsShaped cs most → 0 < i → length (chunk_at cs i).entries ≤ 0 → (at : ℕ) → rest_from R cs i at ≡ []
  none_left most shaped later none at = elim (cases_lt i (length cs)) [
    | inl l ↦ let some = (shaped i (record { entries = []; capacity = 0 }) l).1 (omega (arith, later, l)) in absurd (omega (arith, some, none))
    | inr l ↦ at_end at l
  ]

-- a walk goes on by what a step gave
pub goes_on : {K X C : Type 0} (rest : C → List (K × X)) (left : List (K × X)) (o : Option ((Bor K × Bor X) × C)) → IfSome o (λ went. left ≡ (went.0.0.now, went.0.1.now) ∷ rest went.1) → (o ≡ None → left ≡ []) → GoesOn rest left o
goes_on rest left None step end = end refl
goes_on rest left (Some went) step end = step
