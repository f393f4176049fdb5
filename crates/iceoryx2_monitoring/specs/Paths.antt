-- The file of a node, which stands beside the log.
use Rattle.std.specs.Prelude.{ℕ, ◌≡◌, ◌<◌, ◌^◌, List, ◌++◌, Option, Some, None, codes, decimal}
use Rattle.iceoryx2_file_log.specs.Path.{IsSplit}

-- what stands behind the log's path in that of a node's file, and behind its name in that file's name
abbrev pub suffix_of : ℕ → List ℕ
suffix_of node = codes ".node-" ++ decimal node

abbrev pub token_of : List ℕ → ℕ → List ℕ
token_of log node = log ++ suffix_of node

-- The digits are what is printed of the number; `None` where they are of no number of 64 bits.
abbrev pub IsNumberOf : List ℕ → Option ℕ → Type 0
IsNumberOf digits (Some n) = (digits ≡ decimal n) × (n < 2 ^ 64)
IsNumberOf digits None = (n : ℕ) → n < 2 ^ 64 → digits ≡ decimal n → ⊥

-- The file of this name is the node's beside a log of that name; `None` where it is no node's.
abbrev pub IsNodeOf : List ℕ → List ℕ → Option ℕ → Type 0
IsNodeOf file log (Some node) = (file ≡ token_of log node) × (node < 2 ^ 64)
IsNodeOf file log None = (node : ℕ) → node < 2 ^ 64 → file ≡ token_of log node → ⊥

-- ---- laws

-- A node's file stands in the log's folder, and its name there is made of the log's name.
abbrev pub StandsBeside : Type 0
StandsBeside = (log folder name : List ℕ) (node : ℕ) → node < 2 ^ 64
    → IsSplit log folder name → IsSplit (token_of log node) folder (token_of name node)

-- No two nodes have one file.
abbrev pub OneFileEach : Type 0
OneFileEach = (log : List ℕ) (node other : ℕ) → node < 2 ^ 64 → other < 2 ^ 64
    → token_of log node ≡ token_of log other → node ≡ other
