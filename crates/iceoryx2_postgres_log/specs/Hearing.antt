-- What a question comes to, by what was written and by the lines that were read.
use Rattle.std.specs.Prelude.{◌≡◌, ◌⊎◌, ◌≤◌, ℕ, List, [], ◌∷◌, Option, Some, None, codes, length}
use Rattle.std.specs.Io.KnownBytes.{Appends}
use Rattle.iceoryx2_postgres_log.specs.declared.fault.PostgresFault.{PostgresFault}
use Rattle.iceoryx2_postgres_log.specs.declared.fault.PostgresFault.TheVariants as fault
use Rattle.iceoryx2_postgres_log.specs.declared.standing.Standing.{Standing}
use Rattle.iceoryx2_postgres_log.specs.declared.piece.Piece.{Piece}
use Rattle.iceoryx2_postgres_log.specs.declared.question.TheConstants.{END}
use Rattle.iceoryx2_postgres_log.specs.Questions as text
use Rattle.iceoryx2_postgres_log.specs.Replies.{Asks, Refuses}
use Rattle.iceoryx2_postgres_log.specs.Rows.{IsPlace}
use Rattle.iceoryx2_postgres_log.specs.Standing.{IsStart}
use Rattle.iceoryx2_postgres_log.specs.Pieces.{IsPiece}

-- ---- where a log stands

-- One row told where the log begins.
pub record IsOpened (question : List ℕ) (at : Standing) (written wrote unread left : Option (List ℕ)) : Type 0 where
  pub row : List ℕ
  pub asks : Asks question (codes "opened") (row ∷ []) text.opened written wrote unread left
  pub start : IsStart row at

abbrev pub TellsOpened : (question : List ℕ) → (written wrote unread left : Option (List ℕ)) → Option Standing → Type 0
TellsOpened question written wrote unread left (Some at) = IsOpened question at written wrote unread left
TellsOpened question written wrote unread left None =
    Asks question (codes "opened") [] text.opened written wrote unread left

-- ---- reading

-- The rows behind the place were read, up to a number and to the last one there was, or 64.
pub record IsLook (at : Standing) (until : ℕ) (written wrote unread left : Option (List ℕ)) (piece : Piece)
    : Type 0 where
  pub rows : List (List ℕ)
  pub asks : Asks (text.looking at.log at.generation at.number until) (codes "read") rows text.read
      written wrote unread left
  pub is : IsPiece at.number until at.place rows piece.last piece.rows.items

-- The same as a hold tells it: an empty row comes first, of the lock.
pub record IsHeldPiece (at : Standing) (rows : List (List ℕ)) (piece : Piece) : Type 0 where
  pub lines : List (List ℕ)
  pub rows_are : rows ≡ [] ∷ lines
  pub is : IsPiece at.number END at.place lines piece.last piece.rows.items

-- The gate is locked, the log stands at the place as it did, and these are the rows behind it, or the first 64.
pub record IsHeld (at : Standing) (written wrote unread left : Option (List ℕ)) (piece : Piece) : Type 0 where
  pub rows : List (List ℕ)
  pub asks : Asks (text.holding at.log at.generation at.number) (codes "held") rows text.held written wrote unread left
  pub is : IsHeldPiece at rows piece

-- The server told that it waited for another all of the time: by 55P03, and the gate is given back if it was had.
pub record IsBusy (at : Standing) (written wrote unread left : Option (List ℕ)) : Type 0 where
  pub rows : List (List ℕ)
  pub asks : Asks (text.holding at.log at.generation at.number) (codes "held") rows text.busy written wrote unread left
  pub few : length rows ≤ 2

-- The gate was to be locked, and then to be let go of again.
pub record LetsGo (at : Standing) (written wrote : Option (List ℕ)) : Type 0 where
  pub between : Option (List ℕ)
  pub holds : Appends written between (text.holding at.log at.generation at.number)
  pub lets_go : Appends between wrote (text.letting_go at.log)

-- Nothing was asked, or the gate was let go of again.
abbrev pub IsFreed : Standing → (written wrote unread left : Option (List ℕ)) → Type 0
IsFreed at written wrote unread left = ((wrote ≡ written) × (left ≡ unread)) ⊎ LetsGo at written wrote

-- ---- appending

-- Why an entry has no form.
abbrev pub IsFormFault : PostgresFault → Type 0
IsFormFault fault.TooLong = Unit {0}
IsFormFault fault.OutOfMemory = Unit {0}
IsFormFault other = ⊥

-- The form was to be inserted under the number and committed, and the server told its place and that it was done.
pub record IsDone (at : Standing) (number : ℕ) (form : List ℕ) (written wrote unread left : Option (List ℕ))
    (place : List ℕ) : Type 0 where
  pub asks : Asks (text.appending at.log at.generation number form) (codes "appended") (place ∷ []) text.appended
      written wrote unread left
  pub is : IsPlace number place

-- The server told that it refused the same.
pub record IsRefusedAppend (at : Standing) (number : ℕ) (form : List ℕ) (written wrote unread left : Option (List ℕ))
    (why : PostgresFault) : Type 0 where
  pub rows : List (List ℕ)
  pub end : List ℕ
  pub asks : Asks (text.appending at.log at.generation number form) (codes "appended") rows end
      written wrote unread left
  pub refuses : Refuses (codes "appended") rows end why
