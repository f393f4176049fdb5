-- What a contract sees of a map that is kept in chunks.
use Rattle.std.specs.Prelude.{◌≡◌, ℕ, zero, suc, ◌+◌, ◌-◌, ◌^◌, ◌<◌, ◌≤◌, min, List, [], ◌∷◌, length, take, drop}
use Rattle.std.specs.Prelude.{slice_index_or, Result, Ok, Err}
use Rattle.std.specs.List.{All, flat_map}
use Rattle.std.specs.FinMap as map
use Rattle.std.specs.FinMap.{FinMap}
use Rattle.std.specs.declared.cmp.Ordering.{Ordering}
use Rattle.std.specs.declared.cmp.Ordering.TheVariants.{Greater}
use Rattle.finite_map.specs.Sorted.{Sorted}
use Rattle.finite_map.specs.Places.{place_in, LessBefore, GreaterFrom}

-- how the first key compares with this one, as if it were greater where there is none
abbrev pub first_order : {K V : Type 0} → (K → K → Ordering) → K → List (K × V) → Ordering
first_order R k [] = Greater
first_order R k (e ∷ es) = R e.0 k

-- the entries with this value at the place
abbrev pub with_value_at : {K V : Type 0} → List (K × V) → ℕ → V → List (K × V)
with_value_at [] at v = []
with_value_at (e ∷ es) zero v = (e.0, v) ∷ es
with_value_at (e ∷ es) (suc at) v = e ∷ with_value_at es at v

module _ {K V : Type 0} (cs : List (Sorted K V)) where
  -- all entries, one chunk after another
  abbrev pub flat : List (K × V)
  flat = flat_map (λ c. c.entries) cs

  -- chunk i, or behind the last an empty one with no room
  abbrev pub chunk_at : ℕ → Sorted K V
  chunk_at i = slice_index_or cs i (record { entries = []; capacity = 0 })

  -- one more entry can still be counted
  abbrev pub IsCountable : Type 0
  IsCountable = length flat < 2 ^ 64 - 1

  -- only a sole chunk may be empty, and none has more entries than this
  abbrev pub IsShaped : ℕ → Type 0
  IsShaped most = All (λ c. (length c.entries ≤ most) × (1 < length cs → 0 < length c.entries)) cs

module _ {K V : Type 0} (cs : List (Sorted K V)) (i : ℕ) where
  -- how many entries stand before chunk i
  abbrev pub before : ℕ
  before = length (flat (take i cs))

  -- a place in chunk i, as one among all entries
  abbrev pub flat_place : Result ℕ ℕ → Result ℕ ℕ
  flat_place (Ok at) = Ok (before + at)
  flat_place (Err at) = Err (before + at)

  -- it is a place in chunk i, or the only one where there is no chunk
  abbrev pub IsIn : Result ℕ ℕ → Type 0
  IsIn (Ok at) = at < length (chunk_at cs i).entries
  IsIn (Err at) = (i ≤ length cs - 1) × (at ≤ length (chunk_at cs i).entries)

  -- a place for a new entry, in a chunk with fewer entries than this
  abbrev pub IsOpenAt : ℕ → ℕ → Type 0
  IsOpenAt at most = (i < length cs) × (at ≤ length (chunk_at cs i).entries)
      × (length (chunk_at cs i).entries < most)

  -- one more entry fits in chunk i with no allocation, and there are fewer than this
  abbrev pub HasRoomIn : ℕ → Type 0
  HasRoomIn most = (length (chunk_at cs i).entries < (chunk_at cs i).capacity)
      × (length (chunk_at cs i).entries < most)

module _ {K V : Type 0} (R : K → K → Ordering) (cs : List (Sorted K V)) where
  -- the map that the chunks are
  abbrev pub chunked : FinMap R V
  chunked = map.from_sorted (flat cs)

  -- the place in chunk i is that of the key
  abbrev pub StandsIn : K → ℕ → Result ℕ ℕ → Type 0
  StandsIn k i r = IsIn cs i r × (flat_place cs i r ≡ place_in chunked k)

  -- lesser keys stand before chunk i, and greater ones behind it
  abbrev pub IsChunkOf : K → ℕ → Type 0
  IsChunkOf k i = (i ≤ length cs - 1) × LessBefore R k (flat cs) (before cs i)
      × GreaterFrom R k (flat cs) (before cs (suc i))

  -- the entries from this place of chunk i on
  abbrev pub rest_from : ℕ → ℕ → List (K × V)
  rest_from i at = drop (before cs i + min at (length (chunk_at cs i).entries)) (map.entries chunked)
