-- How many accesses a word has, in all and of a kind.
use Rattle.std.specs.Prelude.{◌≤◌, ℕ, Bool, true, false, List, count_by, length}
use Rattle.iceoryx2_access.specs.Letter.{Letter, Exists, OpenSegment, MakeSegment, RemoveSegment}

abbrev pub is_look : Letter → Bool
is_look (Exists hash answer) = true
is_look _ = false

abbrev pub is_opening : Letter → Bool
is_opening (OpenSegment node hash number answer) = true
is_opening _ = false

abbrev pub is_making : Letter → Bool
is_making (MakeSegment node hash number max_nodes answer) = true
is_making _ = false

abbrev pub is_removal : Letter → Bool
is_removal (RemoveSegment node hash answer) = true
is_removal _ = false

-- A look is an access `exists`.
abbrev pub looks : List Letter → ℕ
looks word = count_by is_look word

abbrev pub openings : List Letter → ℕ
openings word = count_by is_opening word

abbrev pub makings : List Letter → ℕ
makings word = count_by is_making word

abbrev pub removals : List Letter → ℕ
removals word = count_by is_removal word

-- How many of each there may be, and how many accesses in all.
pub record Limits : Type 0 where
  pub accesses : ℕ
  pub looks : ℕ
  pub openings : ℕ
  -- tries to make a segment, and removals of one
  pub makings : ℕ
  pub removals : ℕ

-- At most so many.
pub record IsWithin (word : List Letter) (most : Limits) : Type 0 where
  pub few_accesses : length word ≤ most.accesses
  pub few_looks : looks word ≤ most.looks
  pub few_openings : openings word ≤ most.openings
  pub few_makings : makings word ≤ most.makings
  pub few_removals : removals word ≤ most.removals

-- of a create, of an open, of the part of a create that makes its segment, and of a close
abbrev pub create_limits : Limits
create_limits = record { accesses = 20; looks = 1; openings = 0; makings = 6; removals = 6 }

abbrev pub open_limits : Limits
open_limits = record { accesses = 42; looks = 12; openings = 6; makings = 0; removals = 0 }

abbrev pub segment_limits : Limits
segment_limits = record { accesses = 11; looks = 0; openings = 0; makings = 6; removals = 5 }

abbrev pub close_limits : Limits
close_limits = record { accesses = 4; looks = 0; openings = 0; makings = 0; removals = 1 }
