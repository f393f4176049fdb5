-- A path as a folder and a name in it.
use Rattle.std.specs.Prelude.{ℕ, ◌≡◌, ◌≢◌, ◌<◌, ◌⊎◌, List, [], ◌∷◌, ◌++◌, length, slice_index, codes}

abbrev pub slash : ℕ
slash = 47

abbrev pub HasNoSlash : List ℕ → Type 0
HasNoSlash name = (i : ℕ) → i < length name → slice_index name i ≢ slash

-- Paths into the folder begin so: with nothing where it is the one where the process stands, and else with it and a
-- slash, of which the root's is its own.
abbrev pub IsFrontOf : List ℕ → List ℕ → Type 0
IsFrontOf folder front = ((folder ≡ codes ".") × (front ≡ []))
    ⊎ (((folder ≡ codes "/") × (front ≡ slash ∷ [])) ⊎ ((0 < length folder) × (front ≡ folder ++ slash ∷ [])))

-- The path is that of this name in this folder.
pub record IsSplit (path folder name : List ℕ) : Type 0 where
  pub front : List ℕ
  pub begins : IsFrontOf folder front
  pub bare : HasNoSlash name
  pub is : path ≡ front ++ name
