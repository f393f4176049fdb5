-- What an entry that is taken out of its piece leaves.
use Rattle.std.proofs.Common.{◌≡◌, ℕ, ◌+◌, ◌<◌, List, [], length, sym, ap, subst, ◌∙◌, arith}
use Rattle.std.specs.List.{remove}
use Rattle.std.proofs.lemmas.List.{nil_from_length}
use Rattle.std.proofs.lemmas.List.Edits.{length-remove}
use Rattle.finite_map.specs.Sorted.{Sorted}
use Rattle.finite_map.specs.Chunks.{flat, chunk_at, before, IsShaped}
use Rattle.finite_map.proofs.Flats.{there, remove_in, without_empty}
use Rattle.finite_map.proofs.Shapes.{shaped-set, shaped-remove}
use Rattle.sorted_vec.specs.Pieces.{OnlyAt}

module _ {K V : Type 0} (cs ds : List (Sorted K V)) (i j : ℕ) (only : OnlyAt cs i ds) (m : j < length (chunk_at cs i).entries)
    (e : (chunk_at ds i).entries ≡ remove (chunk_at cs i).entries j) where
  pub taken_out : flat ds ≡ remove (flat cs) (before cs i + j)
  taken_out = ap flat only ∙ remove_in cs i j (chunk_at ds i) m e

  pub taken_shaped : (1 < length cs → 0 < length (chunk_at ds i).entries) → (most : ℕ) → IsShaped cs most → IsShaped ds most
  taken_shaped some most shaped =
      let shape = shaped i (record { entries = []; capacity = 0 }) (there cs i j m) in
      let same = ap length e in
      let fewer = length-remove (chunk_at cs i).entries j m in
      subst (λ (es : List (Sorted K V)). IsShaped es most) (sym only)
      (shaped-set most cs i (chunk_at ds i) shaped (omega (arith, same, fewer, shape.0)) some)

  -- where its piece is empty then, and goes too
  pub gone_flat : length (chunk_at ds i).entries ≡ 0 → flat (remove ds i) ≡ remove (flat cs) (before cs i + j)
  gone_flat none =
      ap (λ (es : List (Sorted K V)). flat (remove es i)) only
      ∙ without_empty cs i (chunk_at ds i) (there cs i j m) (nil_from_length (chunk_at ds i).entries none)
      ∙ sym (ap flat only)
      ∙ taken_out

  pub gone_shaped : 1 < length cs → (most : ℕ) → IsShaped cs most → IsShaped (remove ds i) most
  gone_shaped several most shaped =
      subst (λ (es : List (Sorted K V)). IsShaped (remove es i) most) (sym only)
      (shaped-remove most cs i (chunk_at ds i) shaped several (there cs i j m))
