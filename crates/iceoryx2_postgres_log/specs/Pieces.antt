-- A piece of a log, as the rows of a reply tell it.
use Rattle.std.specs.Prelude.{◌≡◌, ℕ, ◌+◌, ◌<◌, ◌≤◌, min, List, ◌∷◌, ◌++◌, decimal, length}
use Rattle.iceoryx2_postgres_log.specs.declared.row.Row.{Row}
use Rattle.iceoryx2_postgres_log.specs.Rows.{AreRows}

-- The first line tells the place, and the number of the last row.
abbrev pub TellsLast : (place first : List ℕ) → (last : ℕ) → Type 0
TellsLast place first last = first ≡ place ++ 32 ∷ decimal last

-- So many rows behind a number are all up to the end, or 64.
pub record IsWhole (number end count : ℕ) : Type 0 where
  pub few : count ≤ 64
  pub within : number + count ≤ end
  pub all : count < 64 → number + count ≡ end

-- The lines tell the place of this number and the number of the last row, and then the rows behind it in order: all of
-- them up to the last one and to `until`, or 64.
pub record IsPiece (number until : ℕ) (place : List ℕ) (lines : List (List ℕ)) (last : ℕ) (rows : List Row)
    : Type 0 where
  pub first : List ℕ
  pub others : List (List ℕ)
  pub lines_are : lines ≡ first ∷ others
  pub last_is : TellsLast place first last
  pub behind : AreRows number others rows
  pub whole : IsWhole number (min last until) (length rows)
