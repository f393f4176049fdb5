-- A compaction: the log goes on in its next generation, which begins with a snapshot.
use Rattle.std.specs.Prelude.{◌≡◌, ◌⊎◌, ℕ, ◌+◌, true}
use Rattle.std.specs.Prelude.{List, [], ◌∷◌, ◌++◌, Option, Some, None, All, codes, length}
use Rattle.std.specs.Io.KnownBytes.{Appends}
use Rattle.iceoryx2_log.specs.declared.entry.Entry.{Entry}
use Rattle.iceoryx2_log.specs.declared.entry.Operation.TheVariants.{Moved}
use Rattle.iceoryx2_log.specs.Form.{IsForm}
use Rattle.iceoryx2_postgres_log.specs.declared.fault.PostgresFault.{PostgresFault}
use Rattle.iceoryx2_postgres_log.specs.declared.fault.PostgresFault.TheVariants as fault
use Rattle.iceoryx2_postgres_log.specs.declared.row.Row.{Row}
use Rattle.iceoryx2_postgres_log.specs.declared.row.TheConstants.{SUM_LENGTH}
use Rattle.iceoryx2_postgres_log.specs.declared.standing.Standing.{Standing}
use Rattle.iceoryx2_postgres_log.specs.Faults.{is_over_by}
use Rattle.iceoryx2_postgres_log.specs.Questions as text
use Rattle.iceoryx2_postgres_log.specs.Replies.{Asks, Refuses}
use Rattle.iceoryx2_postgres_log.specs.Rows.{AreRows, place_text}

-- ---- the mark, and the next generation's row before its first entry

-- The bytes are the form of the mark, of node 0 and of a hash of zeros.
pub record IsMark (form : List ℕ) : Type 0 where
  pub mark : Entry
  pub node : mark.node ≡ 0
  pub hash : All (λ b. b ≡ 0) mark.hash.0
  pub moves : mark.operation ≡ Moved
  pub is_form : IsForm mark form

-- Two rows tell places with one sum: the mark's, of this number, and the one before the next generation's first entry.
pub record TellsMove (number : ℕ) (rows : List (List ℕ)) (place : List ℕ) : Type 0 where
  pub sum : List ℕ
  pub long : length sum ≡ SUM_LENGTH
  pub rows_are : rows ≡ place_text number sum ∷ place_text 0 sum ∷ []
  pub place_is : place ≡ place_text 0 sum

-- The mark was to be inserted behind the last entry, with the next generation's first row, and both were told.
pub record Moves (at : Standing) (snapshot : ℕ) (written wrote unread left : Option (List ℕ)) (start : Standing)
    : Type 0 where
  pub form : List ℕ
  pub mark : IsMark form
  pub rows : List (List ℕ)
  pub asks : Asks (text.moving at.log at.generation (at.number + 1) (at.generation + 1) form) (codes "moved") rows
      text.moved written wrote unread left
  pub tells : TellsMove (at.number + 1) rows start.place
  pub is : start ≡ record {
    log = at.log;
    generation = at.generation + 1;
    counter = 0;
    snapshot = snapshot;
    number = 0;
    place = start.place;
  }

-- ---- the snapshot

-- The bytes are the forms of the entries, in order.
abbrev pub AreForms : List Entry → List (List ℕ) → Type 0
AreForms [] [] = Unit {0}
AreForms (e ∷ entries) (form ∷ forms) = IsForm e form × AreForms entries forms
AreForms [] (form ∷ forms) = ⊥
AreForms (e ∷ entries) [] = ⊥

-- what the rows hold
abbrev pub forms_in : List Row → List (List ℕ)
forms_in [] = []
forms_in (row ∷ rows) = row.form ∷ forms_in rows

-- behind a row
abbrev pub past : Standing → Row → Standing
past at row = record at { number = row.number; place = row.place }

-- behind all of them
abbrev pub past_all : Standing → List Row → Standing
past_all at [] = at
past_all at (row ∷ rows) = past_all (past at row) rows

-- The rows hold just these forms, and it is behind them.
pub record TakesCopies (rows : List Row) (forms : List (List ℕ)) (old new : Standing) : Type 0 where
  pub same : forms_in rows ≡ forms
  pub is : new ≡ past_all old rows

-- The entries' forms were to be inserted behind the place, and for each in order a row was told of the next number with
-- just this form.
pub record Copies (at : Standing) (entries : List Entry) (written wrote unread left : Option (List ℕ)) (new : Standing)
    : Type 0 where
  pub forms : List (List ℕ)
  pub are : AreForms entries forms
  pub lines : List (List ℕ)
  pub asks : Asks (text.copying at.log at.generation at.number forms) (codes "copied") lines text.copied
      written wrote unread left
  pub rows : List Row
  pub told : AreRows at.number lines rows
  pub takes : TakesCopies rows forms at new

-- The reply ends as it has to, and tells rows that hold just these forms, and it is behind them.
pub record TakesTold (at : Standing) (lines : List (List ℕ)) (end : List ℕ) (forms : List (List ℕ)) (new : Standing)
    : Type 0 where
  pub ended : end ≡ text.copied
  pub rows : List Row
  pub told : AreRows at.number lines rows
  pub takes : TakesCopies rows forms at new

-- All of the entries were copied so, some at a time.
pub data CopiesAll (at : Standing)
    : List Entry → (written wrote unread left : Option (List ℕ)) → Standing → Type 0 where
  none : {entries : List Entry} {written wrote unread left : Option (List ℕ)} {new : Standing} → entries ≡ []
      → wrote ≡ written → left ≡ unread → new ≡ at → CopiesAll at entries written wrote unread left new
  more : {all some others : List Entry} {written between wrote unread heard left : Option (List ℕ)} {mid new : Standing}
      → CopiesAll at some written between unread heard mid → Copies mid others between wrote heard left new
      → all ≡ some ++ others → CopiesAll at all written wrote unread left new

-- ---- the whole

-- The mark was written, and all of the entries were copied behind the start of the next generation.
pub record IsCopied (at : Standing) (entries : List Entry) (written wrote unread left : Option (List ℕ))
    (last : Standing) : Type 0 where
  pub between : Option (List ℕ)
  pub heard : Option (List ℕ)
  pub start : Standing
  pub moves : Moves at (length entries) written between unread heard start
  pub copies : CopiesAll start entries between wrote heard left last

-- The next generation was to become the current one, and that to be committed, and the server told that it is so.
abbrev pub GoesOn : (log generation snapshot : ℕ) → (written wrote unread left : Option (List ℕ)) → Type 0
GoesOn log generation snapshot written wrote unread left =
    Asks (text.going_on log generation snapshot) (codes "went") (codes "t" ∷ []) text.went written wrote unread left

-- All of that, for as many entries as there are.
pub record IsCompacted (at : Standing) (entries : List Entry) (written wrote unread left : Option (List ℕ))
    (new : Standing) : Type 0 where
  pub between : Option (List ℕ)
  pub heard : Option (List ℕ)
  pub last : Standing
  pub copied : IsCopied at entries written between unread heard last
  pub all : last.number ≡ length entries
  pub goes_on : GoesOn at.log (at.generation + 1) (length entries) between wrote heard left
  pub is : new ≡ record {
    log = at.log;
    generation = at.generation + 1;
    counter = 0;
    snapshot = length entries;
    number = length entries;
    place = last.place;
  }

-- ---- what one leaves that fails

-- Only rows were to be inserted, a mark's or copies, any number of times. None of it commits. Each had its reply,
-- whatever that told.
pub data AsksRows : (written wrote unread left : Option (List ℕ)) → Type 0 where
  nothing : {written wrote unread left : Option (List ℕ)} → wrote ≡ written → left ≡ unread
      → AsksRows written wrote unread left
  mark : {written between wrote unread heard left : Option (List ℕ)} → AsksRows written between unread heard
      → (log generation number later : ℕ) (form : List ℕ) (rows : List (List ℕ)) (end : List ℕ)
      → Asks (text.moving log generation number later form) (codes "moved") rows end between wrote heard left
      → AsksRows written wrote unread left
  copies : {written between wrote unread heard left : Option (List ℕ)} → AsksRows written between unread heard
      → (log generation number : ℕ) (forms rows : List (List ℕ)) (end : List ℕ)
      → Asks (text.copying log generation number forms) (codes "copied") rows end between wrote heard left
      → AsksRows written wrote unread left

-- Why no more was asked: the session ended; or nothing was asked, or only that.
abbrev pub EndsIn : (written wrote unread left : Option (List ℕ)) → PostgresFault → Type 0
EndsIn written wrote unread left why =
    (why ≡ fault.SessionEnded) ⊎ (((wrote ≡ written) × (left ≡ unread)) ⊎ AsksRows written wrote unread left)

-- Nothing else was asked, and then all was undone by a rollback.
pub record IsUndone (written wrote unread left : Option (List ℕ)) : Type 0 where
  pub between : Option (List ℕ)
  pub asks : AsksRows written between unread left
  pub undoes : Appends between wrote text.undoing

-- The server told that it refused to make a generation the current one. The handle is over by that.
pub record IsRefusedGoing (log generation snapshot : ℕ) (written wrote unread left : Option (List ℕ))
    (why : PostgresFault) : Type 0 where
  pub rows : List (List ℕ)
  pub end : List ℕ
  pub asks : Asks (text.going_on log generation snapshot) (codes "went") rows end written wrote unread left
  pub refuses : Refuses (codes "went") rows end why
  pub over : is_over_by why ≡ true

-- Nothing else was asked before that.
pub record IsRefusedThen (log generation snapshot : ℕ) (written wrote unread left : Option (List ℕ))
    (why : PostgresFault) : Type 0 where
  pub between : Option (List ℕ)
  pub heard : Option (List ℕ)
  pub asks : AsksRows written between unread heard
  pub refused : IsRefusedGoing log generation snapshot between wrote heard left why

-- What a compaction leaves that failed: the session ended, or the commit was asked for and not told; or nothing is
-- committed, since nothing was asked, or it was undone, or the server told that it refused.
abbrev pub LeavesNothing : Standing → (snapshot : ℕ) → (written wrote unread left : Option (List ℕ)) → PostgresFault
    → Type 0
LeavesNothing at snapshot written wrote unread left why =
    (why ≡ fault.SessionEnded) ⊎ ((why ≡ fault.Unsure) ⊎ (((wrote ≡ written) × (left ≡ unread))
    ⊎ (IsUndone written wrote unread left
    ⊎ IsRefusedThen at.log (at.generation + 1) snapshot written wrote unread left why)))

-- The same for a handle, by why it refused.
abbrev pub Leaves : Standing → (snapshot : ℕ) → (written wrote unread left : Option (List ℕ)) → Option PostgresFault
    → Type 0
Leaves at snapshot written wrote unread left None = ⊥
Leaves at snapshot written wrote unread left (Some why) = LeavesNothing at snapshot written wrote unread left why
