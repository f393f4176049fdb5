-- What the calls of a handle leave by which a log goes on in another file.
use Rattle.std.specs.Prelude.{ℕ, ◌≡◌, ◌≤◌, ◌⊎◌, false, List, length, Some, Result, Ok, Err}
use Rattle.iceoryx2_log.specs.declared.entry.Entry.{Entry}
use Rattle.iceoryx2_log.specs.declared.log.LogError.{LogError}
use Rattle.iceoryx2_file_log.specs.declared.error.FileFault.{FileFault}
use Rattle.iceoryx2_file_log.specs.declared.header.TheConstants.{HEADER_LENGTH}
use Rattle.iceoryx2_file_log.specs.declared.header.Header.{Header}
use Rattle.iceoryx2_file_log.specs.declared.cursor.State.TheVariants.{Held}
use Rattle.iceoryx2_file_log.specs.Errors.{log_error_of}
use Rattle.iceoryx2_file_log.specs.Compaction.{IsSnapshot, IsWorth, TriesAgain, first_tried}
use Rattle.iceoryx2_file_log.specs.Place.{start, held, looked_to, state_after}
use Rattle.iceoryx2_file_log.specs.Handle.{HandleFacts, postponed}

-- A refused call answers by why it was refused, which is kept, and nothing else changes.
pub record OnlyRefuses (e : LogError) (old new : HandleFacts) : Type 0 where
  pub why : FileFault
  pub answer : e ≡ log_error_of why
  pub is : new ≡ record old { fault = Some why }

-- held at this place of the file of this header and length, which has the path
abbrev pub stood : (position : ℕ) → Header → (file_length : ℕ) → HandleFacts → HandleFacts
stood position h file_length f = record f {
  header = h;
  cursor = held file_length (start position);
  tries_from = first_tried h;
  is_away = false;
}

-- It goes to the file that has the path now, which is of the same log, and stands before its first entry.
pub record Rejoins (counter : ℕ) (old new : HandleFacts) : Type 0 where
  pub was_held : old.cursor.state ≡ Held
  pub same_log : new.header.name ≡ old.header.name
  pub begins : counter ≡ new.header.counter
  pub fits : HEADER_LENGTH ≤ new.cursor.file_length
  pub is : new ≡ stood HEADER_LENGTH new.header new.cursor.file_length old

-- It goes to the file that has the path now, which is of the same log, and looks at that, from before its first entry.
pub record LooksElsewhere (counter : ℕ) (old new : HandleFacts) : Type 0 where
  pub same_log : new.header.name ≡ old.header.name
  pub begins : counter ≡ new.header.counter
  pub fits : HEADER_LENGTH ≤ new.cursor.file_length
  pub is : new ≡ record old {
    header = new.header;
    cursor = looked_to new.cursor.file_length (start HEADER_LENGTH);
    tries_from = first_tried new.header;
    is_away = false;
  }

-- held at the end of the file of this header and these bytes
abbrev pub ended : Header → List ℕ → HandleFacts → HandleFacts
ended h bytes f = stood (length bytes) h (length bytes) f

-- It is refused by such an error.
abbrev pub IsErrWith : {X E : Type 0} → Result X E → (E → Type 0) → Type 0
IsErrWith (Ok x) is = ⊥
IsErrWith (Err e) is = is e

-- ---- a compaction

-- It may go on in this file of these entries: it is held, nothing is unread, and the file is worth it.
pub record MayCompact (entries : List Entry) (f : HandleFacts) (h : Header) (bytes : List ℕ) : Type 0 where
  pub was_held : f.cursor.state ≡ Held
  pub all_read : f.cursor.file_length ≡ f.cursor.position
  pub snapshot : IsSnapshot f.header.name entries h bytes
  pub worth : IsWorth f.cursor.file_length (length bytes)

-- It stands at the end of the new file, which has just these entries, and holds it.
pub record Compacts (entries : List Entry) (old new : HandleFacts) : Type 0 where
  pub bytes : List ℕ
  pub may : MayCompact entries old new.header bytes
  pub is : new ≡ ended new.header bytes old

-- It is declined for this reason, and tried again at another length. Nothing else changes: the log goes on, so there is
-- no fault that anybody has to know.
pub record Declines (entries : List Entry) (e : LogError) (old new : HandleFacts) : Type 0 where
  pub why : FileFault
  pub answer : e ≡ log_error_of why
  pub again : TriesAgain why old.header.name entries old.cursor.file_length new.tries_from
  pub is : new ≡ record old { tries_from = new.tries_from }

-- It stands where it stood, refuses for this reason, which is kept, and the next one is tried later.
abbrev pub stayed : FileFault → HandleFacts → HandleFacts
stayed why f = postponed (record f {
  cursor = record f.cursor { state = state_after why f.cursor.state };
  fault = Some why;
})

pub record Stays (e : LogError) (old new : HandleFacts) : Type 0 where
  pub why : FileFault
  pub answer : e ≡ log_error_of why
  pub is : new ≡ stayed why old

-- The new file was made, and the log did not move there.
pub record FailsToMove (entries : List Entry) (e : LogError) (old new : HandleFacts) : Type 0 where
  pub h : Header
  pub bytes : List ℕ
  pub may : MayCompact entries old h bytes
  pub stays : Stays e old new

abbrev pub RefusesCompaction : List Entry → LogError → HandleFacts → HandleFacts → Type 0
RefusesCompaction entries e old new = Declines entries e old new ⊎ FailsToMove entries e old new
