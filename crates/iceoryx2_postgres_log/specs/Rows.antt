-- What the server tells of a row of the log's table.
use Rattle.std.specs.Prelude.{◌≡◌, ℕ, ◌+◌, List, [], ◌∷◌, ◌++◌, length, codes, decimal, Ok}
use Rattle.hex.specs.Hex.{decode_of}
use Rattle.iceoryx2_postgres_log.specs.declared.row.Row.{Row}
use Rattle.iceoryx2_postgres_log.specs.declared.row.TheConstants.{SUM_LENGTH}

-- the number of a row, and the sum of it and of all rows before it
abbrev pub place_text : ℕ → List ℕ → List ℕ
place_text number sum = decimal number ++ codes " " ++ sum

-- It is the place of the row of this number.
pub record IsPlace (number : ℕ) (text : List ℕ) : Type 0 where
  pub sum : List ℕ
  pub long : length sum ≡ SUM_LENGTH
  pub is : text ≡ place_text number sum

-- The line tells the row of this number: its place, and its bytes in hex.
pub record IsRow (number : ℕ) (line : List ℕ) (row : Row) : Type 0 where
  pub number_is : row.number ≡ number
  pub place : IsPlace number row.place
  pub digits : List ℕ
  pub is : line ≡ row.place ++ 32 ∷ digits
  pub form : decode_of digits ≡ Ok row.form

-- The lines tell the rows of the numbers behind this one, in order.
abbrev pub AreRows : ℕ → List (List ℕ) → List Row → Type 0
AreRows number [] [] = Unit {0}
AreRows number (line ∷ lines) (row ∷ rows) = IsRow (number + 1) line row × AreRows (number + 1) lines rows
AreRows number [] (row ∷ rows) = ⊥
AreRows number (line ∷ lines) [] = ⊥
