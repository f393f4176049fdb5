-- A piece behind the first, among all pieces.
use Rattle.std.proofs.Common.{◌≡◌, ℕ, zero, suc, ◌-◌, ◌<◌, List, ◌∷◌, length, get_or, set, sym, ap, ◌∙◌, arith}
use Rattle.std.proofs.lemmas.List.{get_or-set_same}
use Rattle.finite_map.specs.Sorted.{Sorted}
use Rattle.finite_map.specs.Chunks.{chunk_at}
use Rattle.sorted_vec.specs.Pieces.{OnlyAt}
use Rattle.finite_map.proofs.Flats.{chunk_is, there, there_with_room}

module _ {K V : Type 0} (f : Sorted K V) (os : List (Sorted K V)) where
  pub other_at : (i : ℕ) → 0 < i → chunk_at (f ∷ os) i ≡ chunk_at os (i - 1)
  other_at zero l = absurd (omega arith)
  other_at (suc i) l = let same : i ≡ suc i - 1 = omega arith in ap (chunk_at os) same

  pub other_set : (i : ℕ) (c : Sorted K V) → 0 < i → set (f ∷ os) i c ≡ f ∷ set os (i - 1) c
  other_set zero c l = absurd (omega arith)
  other_set (suc i) c l = let same : i ≡ suc i - 1 = omega arith in ap (λ n. f ∷ set os n c) same

  -- a piece that was read behind the first
  pub other_is : (i : ℕ) (b : Sorted K V) → 0 < i → i - 1 < length os → get_or os (i - 1) b ≡ b → chunk_at (f ∷ os) i ≡ b
  other_is i b l m read = other_at i l ∙ chunk_is os (i - 1) b m read

  -- a place in a piece behind the first is in a piece that is there
  pub other_there : (i j : ℕ) → 0 < i → j < length (chunk_at (f ∷ os) i).entries → i - 1 < length os
  other_there i j l m = let n = there (f ∷ os) i j m in omega (arith, n, l)

  pub other_roomy : (i : ℕ) → 0 < i → length (chunk_at (f ∷ os) i).entries < (chunk_at (f ∷ os) i).capacity → i - 1 < length os
  other_roomy i l m = let n = there_with_room (f ∷ os) i m in omega (arith, n, l)

-- a list in which one piece was put
module _ {K V : Type 0} (cs : List (Sorted K V)) (i : ℕ) (c : Sorted K V) (l : i < length cs) where
  pub put_there : chunk_at (set cs i c) i ≡ c
  put_there = get_or-set_same cs i c _ l

  pub put_only : OnlyAt cs i (set cs i c)
  put_only = ap (set cs i) (sym put_there)
