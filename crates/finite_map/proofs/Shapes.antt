-- The sizes of chunks, and what becomes of them.
use Rattle.std.proofs.Common.{◌≡◌, ℕ, zero, suc, ◌+◌, ◌<◌, ◌≤◌, List, [], ◌∷◌, ◌++◌, length, get_or, set, take, drop, inl, inr, refl, sym, ap, subst, ◌∙◌, arith}
use Rattle.std.proofs.Common.{append_assoc}
use Rattle.std.specs.List.{All, insert, remove}
use Rattle.std.proofs.lemmas.List.{length-set, get_or_default, length-take-le, length-drop, take-append-drop}
use Rattle.std.proofs.lemmas.List.Elements.{All-set, All-append, All-take, All-drop, All-cons}
use Rattle.std.proofs.lemmas.List.Edits.{length-insert}
use Rattle.std.proofs.lemmas.Bool.{cases_lt}
use Rattle.finite_map.specs.Sorted.{Sorted}
use Rattle.finite_map.specs.Chunks.{flat, chunk_at, before, IsShaped, IsOpenAt}
use Rattle.finite_map.proofs.Flats.{chunk_is, before-suc}

module _ {K V : Type 0} (most : ℕ) where
  -- a chunk with a size in its bounds
  abbrev pub IsFilled : Sorted K V → Type 0
  IsFilled c = (length c.entries ≤ most) × (0 < length c.entries)

  pub shaped_if_filled : (cs : List (Sorted K V)) → All IsFilled cs → IsShaped cs most
  shaped_if_filled cs filled = λ k d l. ((filled k d l).0, λ _. (filled k d l).1)

  -- with one chunk that is not empty there is none
  pub filled_by : (cs : List (Sorted K V)) (i : ℕ) → IsShaped cs most → i < length cs → 0 < length (chunk_at cs i).entries → All IsFilled cs
  filled_by cs i shaped l some = λ k d m. (
    (shaped k d m).0,
    elim (cases_lt 1 (length cs)) [
      | inl several ↦ (shaped k d m).1 several
      | inr sole ↦
          let same : i ≡ k = omega arith in
          subst (λ (n : ℕ). 0 < length (get_or cs n d).entries) same (subst (λ (c : Sorted K V). 0 < length c.entries) (get_or_default cs i _ d l) some)
    ],
  )

  pub shaped-set : (cs : List (Sorted K V)) (i : ℕ) (c : Sorted K V) → IsShaped cs most → length c.entries ≤ most → (1 < length cs → 0 < length c.entries) → IsShaped (set cs i c) most
  shaped-set cs i c shaped few some = λ k d l.
      let of = All-set (λ (c : Sorted K V). (length c.entries ≤ most) × (1 < length cs → 0 < length c.entries)) cs i c (few, some) shaped k d l in
      (of.0, λ several. of.1 (rw (sym (length-set cs i c)) several))

  pub shaped-remove : (cs : List (Sorted K V)) (i : ℕ) (c : Sorted K V) → IsShaped cs most → 1 < length cs → i < length cs → IsShaped (remove (set cs i c) i) most
  shaped-remove cs i c shaped several l =
      let filled : All IsFilled cs = λ k d m. ((shaped k d m).0, (shaped k d m).1 several) in
      subst (λ (ds : List (Sorted K V)). IsShaped ds most) (sym (removed cs i l))
      (shaped_if_filled _ (All-append IsFilled (take i cs) (drop (suc i) cs) (All-take IsFilled i cs filled) (All-drop IsFilled (suc i) cs filled)))
    where
      removed : (cs : List (Sorted K V)) (i : ℕ) → i < length cs → remove (set cs i c) i ≡ take i cs ++ drop (suc i) cs
      removed [] i l = absurd (omega arith)
      removed (d ∷ cs) zero l = refl
      removed (d ∷ cs) (suc i) l = ap (λ t. d ∷ t) (removed cs i (omega arith))

module _ {K V : Type 0} (c d : Sorted K V) where
  -- chunk i is parted into these two
  abbrev pub parted : List (Sorted K V) → ℕ → List (Sorted K V)
  parted cs i = insert (set cs i c) (suc i) d

  pub parted-flat : (cs : List (Sorted K V)) (i : ℕ) → i < length cs → c.entries ++ d.entries ≡ (chunk_at cs i).entries → flat (parted cs i) ≡ flat cs
  parted-flat [] i l e = absurd (omega arith)
  parted-flat (x ∷ cs) zero l e = sym (append_assoc c.entries d.entries (flat cs)) ∙ ap (λ es. es ++ flat cs) e
  parted-flat (x ∷ cs) (suc i) l e = ap (λ es. x.entries ++ es) (parted-flat cs i (omega arith) e)

  parted-take : (cs : List (Sorted K V)) (i : ℕ) → i < length cs → take i (parted cs i) ≡ take i cs
  parted-take [] i l = absurd (omega arith)
  parted-take (x ∷ cs) zero l = refl
  parted-take (x ∷ cs) (suc i) l = ap (λ t. x ∷ t) (parted-take cs i (omega arith))

  pub parted-before : (cs : List (Sorted K V)) (i : ℕ) → i < length cs → before (parted cs i) i ≡ before cs i
  parted-before cs i l = ap (λ ds. length (flat ds)) (parted-take cs i l)

  pub parted-lower : (cs : List (Sorted K V)) (i : ℕ) → i < length cs → chunk_at (parted cs i) i ≡ c
  parted-lower [] i l = absurd (omega arith)
  parted-lower (x ∷ cs) zero l = refl
  parted-lower (x ∷ cs) (suc i) l = parted-lower cs i (omega arith)

  pub parted-upper : (cs : List (Sorted K V)) (i : ℕ) → i < length cs → chunk_at (parted cs i) (suc i) ≡ d
  parted-upper [] i l = absurd (omega arith)
  parted-upper (x ∷ cs) zero l = refl
  parted-upper (x ∷ cs) (suc i) l = parted-upper cs i (omega arith)

  pub parted-shaped : (most : ℕ) (cs : List (Sorted K V)) (i : ℕ) → All (IsFilled most) cs → IsFilled most c → IsFilled most d → IsShaped (parted cs i) most
  parted-shaped most cs i filled lower upper =
      let P : Sorted K V → Type 0 = IsFilled most in
      let all = All-set P cs i c lower filled in
      shaped_if_filled most _ (All-append P (take (suc i) (set cs i c)) (d ∷ drop (suc i) (set cs i c)) (All-take P (suc i) _ all) (All-cons P d _ upper (All-drop P (suc i) _ all)))

  -- a full chunk that is parted in halves
  module _ (cs : List (Sorted K V)) (i : ℕ) (b : Sorted K V) (l : i < length cs) (read : get_or cs i b ≡ b) (full : length (chunk_at cs i).entries ≡ 64) (low : c.entries ≡ take 32 b.entries) (high : d.entries ≡ drop 32 b.entries) where
    is : chunk_at cs i ≡ b
    is = chunk_is cs i b l read

    lower-length : length c.entries ≡ 32
    lower-length =
        let n = ap (λ (c : Sorted K V). length c.entries) is in
        ap length low ∙ length-take-le 32 b.entries (omega (arith, n, full))

    upper-length : length d.entries ≡ 32
    upper-length =
        let n = ap (λ (c : Sorted K V). length c.entries) is in
        let m = ap length high ∙ length-drop 32 b.entries in
        omega (arith, n, full, m)

    pub halves-flat : flat (parted cs i) ≡ flat cs
    halves-flat = parted-flat cs i l (rw (low, high) (take-append-drop 32 b.entries) ∙ ap (λ (c : Sorted K V). c.entries) (sym is))

    pub halves-shaped : IsShaped cs 64 → IsShaped (parted cs i) 64
    halves-shaped shaped =
        let m = lower-length in
        let n = upper-length in
        parted-shaped 64 cs i (filled_by 64 cs i shaped l (omega (arith, full))) (omega (arith, m), omega (arith, m)) (omega (arith, n), omega (arith, n))

    pub halves-upper : before (parted cs i) (suc i) ≡ before cs i + 32
    halves-upper =
        let a = before-suc (parted cs i) i in
        let b = parted-before cs i l in
        let e = ap (λ (c : Sorted K V). length c.entries) (parted-lower cs i l) in
        let m = lower-length in
        omega (arith, a, b, e, m)

    pub halves-open : IsOpenAt (parted cs i) i 32 64 × IsOpenAt (parted cs i) (suc i) 32 64
    halves-open =
        let a = length-set cs i c in
        let n = length-insert (set cs i c) (suc i) d (omega (arith, a, l)) in
        let e = ap (λ (c : Sorted K V). length c.entries) (parted-lower cs i l) in
        let f = ap (λ (c : Sorted K V). length c.entries) (parted-upper cs i l) in
        let lower = lower-length in
        let upper = upper-length in (
          (omega (arith, a, n, l), omega (arith, e, lower), omega (arith, e, lower)),
          (omega (arith, a, n, l), omega (arith, f, upper), omega (arith, f, upper)),
        )
