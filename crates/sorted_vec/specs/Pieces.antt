-- What an edit of one piece does to a list of pieces.
use Rattle.std.specs.Prelude.{◌≡◌, ℕ, ◌+◌, List, take, drop, slice_set}
use Rattle.std.specs.List.{insert}
use Rattle.finite_map.specs.Sorted.{Sorted}
use Rattle.finite_map.specs.Chunks.{chunk_at}

module _ {K V : Type 0} (old : List (Sorted K V)) (i : ℕ) (new : List (Sorted K V)) where
  -- nothing but piece i has changed
  abbrev pub OnlyAt : Type 0
  OnlyAt = new ≡ slice_set old i (chunk_at new i)

  -- piece i is parted before this entry, and nothing else has changed
  abbrev pub IsPartedAt : ℕ → Type 0
  IsPartedAt at = (new ≡ insert (slice_set old i (chunk_at new i)) (i + 1) (chunk_at new (i + 1)))
      × ((chunk_at new i).entries ≡ take at (chunk_at old i).entries)
      × ((chunk_at new (i + 1)).entries ≡ drop at (chunk_at old i).entries)
