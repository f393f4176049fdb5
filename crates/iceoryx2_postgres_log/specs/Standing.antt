-- Where a handle stands in a log, and how the server tells it.
use Rattle.std.specs.Prelude.{◌≡◌, ℕ, Bool, false, if◌then◌else◌, nat_eq, nat_lt, List, ◌++◌, codes, decimal, length}
use Rattle.iceoryx2_postgres_log.specs.declared.standing.Standing.{Standing}
use Rattle.iceoryx2_postgres_log.specs.declared.row.TheConstants.{SUM_LENGTH}
use Rattle.iceoryx2_postgres_log.specs.Rows.{place_text}

-- what stands before the sum in a row that tells where a generation begins
abbrev pub start_front : (log generation counter snapshot : ℕ) → List ℕ
start_front log generation counter snapshot =
    codes "3 " ++ (decimal log ++ (codes " " ++ (decimal generation ++ (codes " " ++ (decimal counter
    ++ (codes " " ++ (decimal snapshot ++ codes " ")))))))

-- The row tells that this is before the first entry.
pub record IsStart (row : List ℕ) (at : Standing) : Type 0 where
  pub sum : List ℕ
  pub long : length sum ≡ SUM_LENGTH
  pub is : row ≡ start_front at.log at.generation at.counter at.snapshot ++ sum
  pub number : at.number ≡ 0
  pub place : at.place ≡ place_text 0 sum

-- whether it is before the first entry of a later generation of the same log
abbrev pub is_later : Standing → Standing → Bool
is_later at start = if nat_eq at.log start.log then nat_lt at.generation start.generation else false
