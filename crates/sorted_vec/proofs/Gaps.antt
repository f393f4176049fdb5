-- How a gap for a key is opened, and that it has room then.
use Rattle.std.proofs.Common.{◌≡◌, ℕ, suc, ◌+◌, ◌-◌, ◌^◌, ◌<◌, ◌≤◌, List, [], ◌++◌, length, set, take, inl, inr, sym, ap, subst, ◌∙◌, arith, add-one}
use Rattle.std.specs.Prelude.{Result, Err}
use Rattle.std.specs.List.{insert}
use Rattle.std.specs.FinMap as map
use Rattle.std.specs.FinMap.{is_sorted}
use Rattle.std.specs.declared.cmp.Ordering.{Ordering}
use Rattle.std.proofs.lemmas.Bool.{cases_lt}
use Rattle.std.proofs.lemmas.List.{length-set, length-take-le, length-drop, take-append-drop, take-set}
use Rattle.finite_map.specs.Sorted.{Sorted}
use Rattle.finite_map.specs.Places.{place_in}
use Rattle.finite_map.specs.Chunks.{flat, chunk_at, before, chunked, StandsIn, HasRoomIn, IsOpenAt, IsShaped, IsCountable}
use Rattle.finite_map.proofs.Flats.{same_in, before-suc, before-le}
use Rattle.finite_map.proofs.Shapes.{shaped-set, filled_by, parted, parted-flat, parted-shaped}
use Rattle.sorted_vec.specs.Pieces.{OnlyAt, IsPartedAt}
use Rattle.sorted_vec.specs.Sorted.{IsKept, IsBehindOthers}

-- a full piece that is parted in halves
module _ {K V : Type 0} (cs ds : List (Sorted K V)) (i half most : ℕ) (l : i < length cs) (shaped : IsShaped cs most)
    (full : most ≤ length (chunk_at cs i).entries) (few : 0 < half) (less : half < most) (halves : IsPartedAt cs i ds half) where
  is : ds ≡ parted (chunk_at ds i) (chunk_at ds (i + 1)) cs i
  is = halves.0 ∙ ap (λ n. insert (set cs i (chunk_at ds i)) n (chunk_at ds (i + 1))) (add-one i)

  pub halves-flat : flat ds ≡ flat cs
  halves-flat = ap flat is ∙ parted-flat (chunk_at ds i) (chunk_at ds (i + 1)) cs i l
      (ap (λ es. es ++ (chunk_at ds (i + 1)).entries) halves.1 ∙ ap (λ es. take half (chunk_at cs i).entries ++ es) halves.2 ∙ take-append-drop half (chunk_at cs i).entries)

  pub halves-shaped : IsShaped ds most
  halves-shaped =
      let shape = shaped i (record { entries = []; capacity = 0 }) l in
      let low = ap length halves.1 ∙ length-take-le half (chunk_at cs i).entries (omega (arith, full, less)) in
      let high = ap length halves.2 ∙ length-drop half (chunk_at cs i).entries in
      subst (λ (es : List (Sorted K V)). IsShaped es most) (sym is)
      (parted-shaped (chunk_at ds i) (chunk_at ds (i + 1)) most cs i
      (filled_by most cs i shaped l (omega (arith, full, less)))
      (omega (arith, low, less), omega (arith, low, few))
      (omega (arith, high, shape.0), omega (arith, high, full, less)))

-- a key that is absent has one place
module _ {K V : Type 0} (R : K → K → Ordering) (cs : List (Sorted K V)) (k : K) where
  not_before : (i at j bt : ℕ) → at ≤ length (chunk_at cs i).entries → before cs i + at ≡ before cs j + bt → (bt ≡ 0 → j ≡ 0) → i < j → i ≡ j
  not_before i at j bt within same first l =
      let next = before-suc cs i in
      let further = before-le cs (suc i) j (omega (arith, l)) in
      let none : bt ≡ 0 = omega (arith, within, same, next, further) in
      let start = first none in
      omega (arith, start, l)

  pub one_place : (i at j bt : ℕ) → StandsIn R cs k i (Err at) → IsBehindOthers i (Err at) → StandsIn R cs k j (Err bt) → IsBehindOthers j (Err bt) → i ≡ j
  one_place i at j bt stands first also start =
      let both : ◌≡◌ {A = Result ℕ ℕ} (Err (before cs i + at)) (Err (before cs j + bt)) = stands.1 ∙ sym also.1 in
      let same : before cs i + at ≡ before cs j + bt = cc in
      elim (cases_lt i j) [
        | inl l ↦ not_before i at j bt stands.0.1 same start l
        | inr more ↦ elim (cases_lt j i) [
          | inl l ↦ sym (not_before j bt i at also.0.1 (sym same) first l)
          | inr less ↦ omega (arith, more, less)
        ]
      ]

-- pieces with the same entries in a row, of which one was given room
module _ {K V : Type 0} (R : K → K → Ordering) (cs ds es : List (Sorted K V)) (most n : ℕ) (kept : IsKept R cs most n)
    (same : flat ds ≡ flat cs) (shaped : IsShaped ds most) (i j : ℕ) (free : IsOpenAt ds i j most)
    (only : OnlyAt ds i es) (e : (chunk_at es i).entries ≡ (chunk_at ds i).entries) where
  pub roomy-flat : flat es ≡ flat cs
  roomy-flat = ap flat only ∙ same_in ds i (chunk_at es i) free.0 e ∙ same

  pub roomy_map : chunked R es ≡ chunked R cs
  roomy_map = ap (λ (l : List (K × V)). map.from_sorted {R = R} l) roomy-flat

  pub roomy_kept : IsKept R es most n
  roomy_kept =
      let m = ap length e in
      let shape = shaped i (record { entries = []; capacity = 0 }) free.0 in
      let long = ap length only ∙ length-set ds i (chunk_at es i) in
      let there = free.0 in
      record {
        sorted = ap (λ (l : List (K × V)). is_sorted R l) roomy-flat ∙ kept.sorted;
        shaped = subst (λ (fs : List (Sorted K V)). IsShaped fs most) (sym only)
            (shaped-set most ds i (chunk_at es i) shaped (omega (arith, m, shape.0)) (λ several. let some = shape.1 several in omega (arith, m, some)));
        counted = kept.counted ∙ ap length (sym roomy-flat);
        some = omega (arith, long, there);
        parts = kept.parts;
      }

  pub roomy_stands : (k : K) (i₀ j₀ : ℕ) → StandsIn R cs k i₀ (Err j₀) → before ds i + j ≡ before cs i₀ + j₀ → StandsIn R es k i (Err j)
  roomy_stands k i₀ j₀ stands at =
      let long = ap length only ∙ length-set ds i (chunk_at es i) in
      let m = ap length e in
      let row : before es i ≡ before ds i = ap (λ (fs : List (Sorted K V)). before fs i) only ∙ ap (λ (fs : List (Sorted K V)). length (flat fs)) (take-set ds i (chunk_at es i)) in
      let here : before es i + j ≡ before cs i₀ + j₀ = omega (arith, row, at) in (
        (omega (arith, long, free.0), omega (arith, m, free.1)),
        ap Err here ∙ stands.1 ∙ ap (λ (m : map.FinMap R V). place_in m k) (sym roomy_map),
      )

  pub has_room : (k : K) (i₀ j₀ : ℕ) → StandsIn R cs k i₀ (Err j₀) → before ds i + j ≡ before cs i₀ + j₀ → IsBehindOthers i (Err j)
      → length (chunk_at es i).entries < (chunk_at es i).capacity → n < 2 ^ 64 - 1
      → (a b : ℕ) → StandsIn R es k a (Err b) × IsBehindOthers a (Err b) → HasRoomIn es a most × IsCountable es
  has_room k i₀ j₀ stands at first room few a b place =
      let here = one_place R es k i j a b (roomy_stands k i₀ j₀ stands at) first place.0 place.1 in
      let m = ap length e in
      let all = ap length roomy-flat in
      let counted = kept.counted in
      let fits : HasRoomIn es i most = (room, omega (arith, m, free.2)) in
      (subst (λ (p : ℕ). HasRoomIn es p most) here fits, omega (arith, all, counted, few))
