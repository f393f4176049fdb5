-- What the calls of a handle leave of where it stands.
use Rattle.std.specs.Prelude.{◌≡◌, ◌≢◌, ◌⊎◌, ◌≤◌, ℕ, ◌+◌, ◌*◌, ◌-◌, ◌^◌, min, Bool, true, false}
use Rattle.std.specs.Prelude.{List, [], ◌∷◌, Option, Some, None}
use Rattle.iceoryx2_log.specs.declared.entry.Entry.{Entry}
use Rattle.iceoryx2_log.specs.declared.log.LogError.{LogError}
use Rattle.iceoryx2_log.specs.Form.{IsForm}
use Rattle.iceoryx2_postgres_log.specs.declared.fault.PostgresFault.{PostgresFault}
use Rattle.iceoryx2_postgres_log.specs.declared.fault.PostgresFault.TheVariants as fault
use Rattle.iceoryx2_postgres_log.specs.declared.row.Row.{Row}
use Rattle.iceoryx2_postgres_log.specs.declared.standing.Standing.{Standing}
use Rattle.iceoryx2_postgres_log.specs.declared.piece.Piece.{Piece}
use Rattle.iceoryx2_postgres_log.specs.declared.postgres_log.Mode.{Mode}
use Rattle.iceoryx2_postgres_log.specs.declared.postgres_log.Mode.TheVariants as way
use Rattle.iceoryx2_postgres_log.specs.declared.postgres_log.State.{State}
use Rattle.iceoryx2_postgres_log.specs.declared.postgres_log.State.TheVariants as state
use Rattle.iceoryx2_postgres_log.specs.Faults.{is_over_by, log_error_of}
use Rattle.iceoryx2_postgres_log.specs.First.{IsDamaged}
use Rattle.iceoryx2_postgres_log.specs.Questions as text
use Rattle.iceoryx2_postgres_log.specs.Standing as standing
use Rattle.iceoryx2_postgres_log.specs.Hearing.{IsOpened, IsLook, IsDone, IsRefusedAppend}

-- whether it asks nothing any more, by why the last call was refused
abbrev pub is_over : Option PostgresFault → Bool
is_over None = false
is_over (Some why) = is_over_by why

abbrev pub is_held : Mode → Bool
is_held way.Free = false
is_held way.Held = true
is_held way.Looked = false

-- the state of a handle, which is over or not
abbrev pub state_of : Bool → Mode → State
state_of true mode = state.Over
state_of false way.Free = state.Free
state_of false way.Held = state.Held
state_of false way.Looked = state.Looked

-- The error tells why the last call was refused.
abbrev pub IsErrorOf : LogError → Option PostgresFault → Type 0
IsErrorOf e (Some why) = e ≡ log_error_of why
IsErrorOf e None = ⊥

-- A row is damaged.
abbrev pub IsDamage : PostgresFault → Type 0
IsDamage why = (number : ℕ) × (why ≡ fault.Damaged number)

-- The first of the unread rows is damaged.
abbrev pub IsDamagedFirst : List Row → Type 0
IsDamagedFirst ahead = (number : ℕ) × IsDamaged ahead number

-- ---- reading on

-- Nothing was asked: some row is unread, or the end is reached.
pub record Stays (at : Standing) (until : ℕ) (old : List Row) (written wrote unread left : Option (List ℕ))
    (new : List Row) : Type 0 where
  pub ahead : new ≡ old
  pub wrote_is : wrote ≡ written
  pub left_is : left ≡ unread
  pub end : old ≡ [] → at.number ≡ until

-- No row was unread, and the next ones were asked for, up to the end, and told.
pub record ReadsMore (at : Standing) (until : ℕ) (old : List Row) (written wrote unread left : Option (List ℕ))
    (new : List Row) : Type 0 where
  pub none : old ≡ []
  pub more : at.number ≢ until
  pub piece : Piece
  pub look : IsLook at until written wrote unread left piece
  pub rows : new ≡ piece.rows.items
  pub some : new ≢ []

abbrev pub ReadsOn : Standing → (until : ℕ) → List Row → (written wrote unread left : Option (List ℕ)) → List Row
    → Type 0
ReadsOn at until old written wrote unread left new =
    Stays at until old written wrote unread left new ⊎ ReadsMore at until old written wrote unread left new

-- ---- where the handle stands once the first of the unread rows, if there is one, is read

abbrev pub number_after : ℕ → List Row → ℕ
number_after number [] = number
number_after number (row ∷ rows) = row.number

abbrev pub place_after : List ℕ → List Row → List ℕ
place_after place [] = place
place_after place (row ∷ rows) = row.place

abbrev pub left_after : List Row → List Row
left_after [] = []
left_after (row ∷ rows) = rows

-- ---- appending

-- The log is held, and all that stood in it is taken over.
pub record MayAppend (why : Option PostgresFault) (mode : Mode) (ahead : List Row) (number until : ℕ) : Type 0 where
  pub on : is_over why ≡ false
  pub held : mode ≡ way.Held
  pub none_unread : ahead ≡ []
  pub all_read : number ≡ until

-- The entry's form was to be inserted under the next number and committed, and the server told its place and that it
-- was done.
pub record Appended (at : Standing) (e : Entry) (written wrote unread left : Option (List ℕ)) (place : List ℕ)
    : Type 0 where
  pub form : List ℕ
  pub is_form : IsForm e form
  pub done : IsDone at (at.number + 1) form written wrote unread left place

-- Why an append was refused: nothing was asked; or its commit was asked for and not told; or the server told that it
-- refused to insert a form of the entry.
abbrev pub RefusesAppend : Standing → Entry → (written wrote unread left : Option (List ℕ)) → Option PostgresFault
    → Type 0
RefusesAppend at e written wrote unread left None = ⊥
RefusesAppend at e written wrote unread left (Some why) =
    ((wrote ≡ written) × (left ≡ unread)) ⊎ ((why ≡ fault.Unsure)
    ⊎ ((form : List ℕ) × IsForm e form × IsRefusedAppend at (at.number + 1) form written wrote unread left why))

-- ---- another generation

-- The server told of a later generation of the log that has this name, and these are the first rows of it.
pub record Rejoined (name : List ℕ) (at start : Standing) (written wrote unread left : Option (List ℕ)) (piece : Piece)
    : Type 0 where
  pub between : Option (List ℕ)
  pub heard : Option (List ℕ)
  pub opened : IsOpened (text.reopening name) start written between unread heard
  pub later : standing.is_later at start ≡ true
  pub look : IsLook start text.end between wrote heard left piece

-- ---- a new session

-- The server told where the log of this name begins: it is the same log, in the same generation or in a later one.
pub record StandsAgain (name : List ℕ) (wait : ℕ) (at : Standing) (written wrote unread left : Option (List ℕ))
    : Type 0 where
  pub start : Standing
  pub opened : IsOpened (text.opening name false wait) start written wrote unread left
  pub same : start.log ≡ at.log
  pub reached : at.generation ≤ start.generation

-- ---- compaction

-- from how many entries on one to so many is worth it
abbrev pub worth : ℕ → ℕ
worth count = min (count * 8) (2 ^ 64 - 1)

-- from how many entries on the first one is tried behind a snapshot of so many
abbrev pub first_tried : ℕ → ℕ
first_tried snapshot = worth (min (snapshot + 1) (2 ^ 64 - 1))

-- from how many entries on one is tried again that was put off at this number
abbrev pub later : ℕ → ℕ
later number = min (number + 1024) (2 ^ 64 - 1)
