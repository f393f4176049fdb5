-- Where a log is.
use Rattle.std.specs.Prelude.{ℕ, Bool, List, codes, nat_eq}
use Rattle.std.specs.List.{starts_with}

-- a log of this path is in a database
abbrev pub is_in_database : (path : List ℕ) → Bool
is_in_database path = starts_with nat_eq path (codes "postgres:")
