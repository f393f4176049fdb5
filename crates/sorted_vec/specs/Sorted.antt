-- What a contract sees of a `SortedVec`.
use Rattle.std.specs.Prelude.{◌≡◌, ℕ, ◌+◌, ◌<◌, ◌≤◌, Bool, true, is_ok, List, length, drop, refl, Result, Ok, Err}
use Rattle.std.specs.Coded.{Coded, code_by, coded×, coded_ℕ, coded_list}
use Rattle.std.specs.declared.cmp.Ordering.{Ordering}
use Rattle.std.specs.declared.cmp.Ordering.TheVariants.{Less}
use Rattle.std.specs.FinMap.{FinMap, entries, is_sorted}
use Rattle.sorted_vec.specs.declared.sorted.Place.{Place}
use Rattle.finite_map.specs.Places.{LessBefore, rank}
use Rattle.finite_map.specs.Sorted.{Sorted, sorted_code}
use Rattle.finite_map.specs.Chunks.{flat, chunk_at, before, chunked, first_order}
use Rattle.finite_map.specs.Chunks.{StandsIn, IsChunkOf, IsShaped, HasRoomIn, IsCountable}

-- the pieces of the entries, and how many entries a piece has at most
pub record Stored (K V : Type 0) : Type 0 where
  pub pieces : List (Sorted K V)
  pub most : ℕ

-- it is stored as the pair of its fields
abbrev pub stored_code : {K V : Type 0} → Coded K → Coded V → Coded (Stored K V)
stored_code {K} {V} k v = code_by (List (Sorted K V) × ℕ)
    (coded× (coded_list (sorted_code k v)) coded_ℕ)
    (λ s. (s.pieces, s.most))
    (λ p. record { pieces = p.0; most = p.1 })
    (λ _. refl)

-- what is always true of the fields: the pieces' entries in a row are in order, none of several pieces is empty, and
-- none has more entries than this
pub record IsKept {K V : Type 0} (R : K → K → Ordering) (cs : List (Sorted K V)) (most count : ℕ) : Type 0 where
  pub sorted : is_sorted R (flat cs) ≡ true
  pub shaped : IsShaped cs most
  pub counted : count ≡ length (flat cs)
  pub some : 0 < length cs
  pub parts : 2 ≤ most

-- a key that is to stand before all of a piece goes to the end of the piece before it, where there is one
abbrev pub IsBehindOthers : ℕ → Result ℕ ℕ → Type 0
IsBehindOthers i (Ok at) = Unit {0}
IsBehindOthers i (Err at) = at ≡ 0 → i ≡ 0

-- it is the place of a key that stood there
abbrev pub is_there : Place → Bool
is_there place = is_ok place.at

-- the index of a place in its piece
abbrev pub index_of : Result ℕ ℕ → ℕ
index_of (Ok at) = at
index_of (Err at) = at

module _ {K V : Type 0} (R : K → K → Ordering) where
  -- the map that it is
  abbrev pub map_of : Stored K V → FinMap R V
  map_of s = chunked R s.pieces

  -- the entries of a map whose keys aren't less
  abbrev pub IsFrom : K → FinMap R V → List (K × V) → Type 0
  IsFrom k m es = es ≡ drop (rank R k (entries m)) (entries m)

  -- the place of the key: the piece, and where the key stands in it, or would stand
  abbrev pub IsPlace : Stored K V → K → ℕ → Result ℕ ℕ → Type 0
  IsPlace s k i r = StandsIn R s.pieces k i r × IsBehindOthers i r

  -- the key stands in this piece, or would stand there
  abbrev pub IsPieceOf : List (Sorted K V) → K → ℕ → Type 0
  IsPieceOf cs k i = (i < length cs) × IsChunkOf R cs k i × (0 < i → first_order R k (chunk_at cs i).entries ≡ Less)

  -- a place of a piece behind all lesser keys, and not at the start of a piece behind the first
  abbrev pub IsBehindLess : List (Sorted K V) → K → ℕ → ℕ → Type 0
  IsBehindLess cs k i at = (i < length cs) × (at ≤ length (chunk_at cs i).entries)
      × LessBefore R k (flat cs) (before cs i + at) × (at ≡ 0 → i ≡ 0)

  -- the key can be put there with no allocation
  unfoldable pub HasRoomFor : Stored K V → K → Type 0
  HasRoomFor s k = (i at : ℕ) → IsPlace s k i (Err at) → HasRoomIn s.pieces i s.most × IsCountable s.pieces
