-- What the calls of a handle leave of where it stands.
use Rattle.std.specs.Prelude.{ℕ, ◌+◌, ◌≡◌, ◌≢◌, ◌<◌, ◌≤◌, ◌⊎◌, Bool, true, false, List, ◌++◌, length, string_bytes}
use Rattle.std.specs.Prelude.{Option, Some, None, Result, Err, IfOk, IfErr, IsTrue}
use Rattle.iceoryx2_log.specs.declared.entry.Entry.{Entry}
use Rattle.iceoryx2_log.specs.declared.entry.Operation.TheVariants.{Moved}
use Rattle.iceoryx2_log.specs.declared.log.LogError.{LogError}
use Rattle.iceoryx2_log.specs.declared.log.LogError.TheVariants as log
use Rattle.iceoryx2_log.specs.Form.{IsForm, Begins}
use Rattle.iceoryx2_file_log.specs.declared.error.FileFault.{FileFault}
use Rattle.iceoryx2_file_log.specs.declared.error.FileFault.TheVariants as fault
use Rattle.iceoryx2_file_log.specs.declared.error.FileLogError.{FileLogError}
use Rattle.iceoryx2_file_log.specs.declared.options.FileLogOptions.{FileLogOptions}
use Rattle.iceoryx2_file_log.specs.declared.header.TheConstants.{HEADER_LENGTH}
use Rattle.iceoryx2_file_log.specs.declared.header.Header.{Header}
use Rattle.iceoryx2_file_log.specs.declared.cursor.State.{State}
use Rattle.iceoryx2_file_log.specs.declared.cursor.State.TheVariants.{Free, Held}
use Rattle.iceoryx2_file_log.specs.declared.cursor.State.TheVariants as state
use Rattle.iceoryx2_file_log.specs.declared.remainder.Front.{Front}
use Rattle.iceoryx2_file_log.specs.declared.remainder.Front.TheVariants.{Whole, Unfinished, Torn, Damaged}
use Rattle.iceoryx2_file_log.specs.Errors.{log_error_of}
use Rattle.iceoryx2_file_log.specs.Remainder.{IsTorn}
use Rattle.iceoryx2_file_log.specs.Compaction.{IsMark, MayBeCut, first_tried, later, snapshot_end}
use Rattle.iceoryx2_file_log.specs.Place.{Place, start, left, held, looked_to, cut, appended, let_go_of, state_after}

-- What a handle is seen as.
pub record HandleFacts : Type 0 where
  pub path : List ℕ
  pub options : FileLogOptions
  pub header : Header
  pub cursor : Place
  -- why the log refused the last call that it refused, except for a compaction that was declined
  pub fault : Option FileFault
  -- the length of the file from which the next compaction is tried
  pub tries_from : ℕ
  -- whether it has the lock of the file in which it stands
  pub is_locked : Bool
  -- whether that file had the log's path no more when it was held or measured last
  pub is_away : Bool
  -- whether the file was measured, so that what stood then is read, though the log isn't held
  pub looks : Bool
  -- whether the file was opened to read only
  pub only_reads : Bool

-- A held handle has the lock, and a free one hasn't. One that is used no more may have it.
abbrev pub HasLock : State → Bool → Type 0
HasLock Free is_locked = is_locked ≡ false
HasLock Held is_locked = is_locked ≡ true
HasLock state.Unsure is_locked = Unit {0}
HasLock (state.Damaged at) is_locked = Unit {0}

-- A handle that looks, or was opened to read only, hasn't the lock.
pub record ReadsUnlocked (looks only_reads is_locked : Bool) : Type 0 where
  pub looking : looks ≡ true → is_locked ≡ false
  pub reading : only_reads ≡ true → is_locked ≡ false

-- of the log with this header in the file of this path: nothing is taken over of it
abbrev pub new_handle : (path : List ℕ) → FileLogOptions → Header → HandleFacts
new_handle path options h = record {
  path = path;
  options = options;
  header = h;
  cursor = start HEADER_LENGTH;
  fault = None;
  tries_from = first_tried h;
  is_locked = false;
  is_away = false;
  looks = false;
  only_reads = false;
}

-- the same, opened to read only
abbrev pub new_reader : (path : List ℕ) → FileLogOptions → Header → HandleFacts
new_reader path options h = record (new_handle path options h) { only_reads = true }

-- A refused call answers by why it was refused, which is kept, and leaves the state after that.
abbrev pub IsRefused : LogError → Option FileFault → State → State → Type 0
IsRefused e (Some why) old new = (e ≡ log_error_of why) × (new ≡ state_after why old)
IsRefused e None old new = ⊥

-- It was free and is held, and the file is not shorter than what was taken over of it.
pub record Holds (old new : Place) : Type 0 where
  pub free : old.state ≡ Free
  pub fits : old.position ≤ new.file_length
  pub is : new ≡ held new.file_length old

-- What was read, with some more, begins with the entry, of as many bytes as are found.
pub record Finds (e : Entry) (old new : Place) : Type 0 where
  pub more : List ℕ
  pub begins : Begins (old.ahead ++ more) e new.found
  pub is : new ≡ record old { ahead = old.ahead ++ more; found = new.found }

-- What stands at the position: an entry, or nothing.
abbrev pub Shows : Option Entry → Place → Place → Type 0
Shows (Some e) old new = Finds e old new
Shows None old new = new.file_length ≡ new.position

-- Where what is cut off is to be synchronized, only a doubt refuses after a cut: what may come back with the power is
-- not taken for gone.
abbrev pub IsSureOfCuts : (synchronizes : Bool) → FileFault → Place → Place → Type 0
IsSureOfCuts synchronizes why old new =
    IsTrue synchronizes → (why ≡ fault.Unsure) ⊎ (new.file_length ≡ old.file_length)

-- What was read, with some more, is all that was left, and torn. It is cut off.
pub record IsCutOff (old new : Place) : Type 0 where
  pub more : List ℕ
  pub torn : IsTorn (old.ahead ++ more)
  pub all : left old ≤ length (old.ahead ++ more)
  pub ends : new.file_length ≡ old.position

-- What was read, with some more, is all that was left, and just a mark. It is cut off.
pub record IsMarkCutOff (old new : Place) : Type 0 where
  pub more : List ℕ
  pub mark : IsMark (old.ahead ++ more)
  pub all : left old ≤ length (old.ahead ++ more)
  pub ends : new.file_length ≡ old.position

-- The file is as long as it was, or what was left is cut off: it was torn, or a mark.
abbrev pub SparesEntries : Place → Place → Type 0
SparesEntries old new = (new.file_length ≡ old.file_length) ⊎ (IsCutOff old new ⊎ IsMarkCutOff old new)

-- A mark is no entry of the log, and is never found as one.
abbrev pub IsNoMark : Option Entry → Type 0
IsNoMark None = Unit {0}
IsNoMark (Some e) = e.operation ≢ Moved

-- Where there is no entry the whole snapshot is taken over.
abbrev pub IsPastSnapshot : Option Entry → Header → Place → Type 0
IsPastSnapshot None h p = snapshot_end h ≤ p.position
IsPastSnapshot (Some e) h p = Unit {0}

-- An entry that begins before the snapshot's end ends by it: a snapshot ends where an entry does.
abbrev pub IsNotAcross : Option Entry → Header → Place → Type 0
IsNotAcross None h p = Unit {0}
IsNotAcross (Some e) h p = p.position < snapshot_end h → p.position + p.found ≤ snapshot_end h

-- Nothing was unread, and the file ends with the entry's form now.
pub record Appends (e : Entry) (old new : Place) : Type 0 where
  pub form : List ℕ
  pub is_form : IsForm e form
  pub was_held : old.state ≡ Held
  pub all_read : old.file_length ≡ old.position
  pub is : new ≡ appended (length form) old

-- ---- a look: what stood when the file was measured is read, though the log isn't held

-- It was free, and knows how long the file is, which is not shorter than what was taken over of it. It hasn't the lock.
pub record LooksAt (old new : HandleFacts) : Type 0 where
  pub free : old.cursor.state ≡ Free
  pub fits : old.cursor.position ≤ new.cursor.file_length
  pub is : new ≡ record old {
    cursor = looked_to new.cursor.file_length old.cursor;
    is_away = new.is_away;
    looks = true;
  }

-- No more stands there, or what was read is all that was left, and torn or a mark. It stays in the file.
abbrev pub EndsUncut : Place → Type 0
EndsUncut p = (p.file_length ≡ p.position) ⊎ (MayBeCut p.ahead × (left p ≤ length p.ahead))

-- What stands at the position, where nothing is written: an entry, or none up to the measured end.
abbrev pub ShowsUncut : Option Entry → Place → Place → Type 0
ShowsUncut (Some e) old new = Finds e old new
ShowsUncut None old new = EndsUncut new

-- A refused call answers by why it was refused, which is kept.
abbrev pub IsKept : LogError → Option FileFault → Type 0
IsKept e (Some why) = e ≡ log_error_of why
IsKept e None = ⊥

-- What a handle finds that looks. It stays where it is and of use, and no byte is cut off.
pub record LooksNext (result : Result (Option Entry) LogError) (old new : HandleFacts) : Type 0 where
  pub shows : IfOk result (λ found. ShowsUncut found old.cursor new.cursor)
  pub uncut : new.cursor ≡ record old.cursor { ahead = new.cursor.ahead; found = new.cursor.found }
  pub err : IfErr result (λ e. IsKept e new.fault)

-- ---- a file that has the log's path no more

-- It doesn't end: where no entry is shown it refuses. Nothing is cut off.
pub record IsAwayNext {E : Type 0} (result : Result (Option Entry) E) (old new : Place) : Type 0 where
  pub no_end : IfOk result (λ found. found ≢ None)
  pub uncut : new.file_length ≡ old.file_length

-- It is held, and its file has the log's path no more.
pub record IsHeldAway (f : HandleFacts) : Type 0 where
  pub is_held : f.cursor.state ≡ Held
  pub away : f.is_away ≡ true

-- Nothing of the file is unread.
pub record MeetsNoEntry (f : HandleFacts) : Type 0 where
  pub is : IsHeldAway f
  pub all_read : f.cursor.file_length ≡ f.cursor.position
  pub past : snapshot_end f.header ≤ f.cursor.position

-- It refuses by that name, which is kept.
abbrev pub IsRemoved : {A : Type 0} → Result A LogError → Option FileFault → Type 0
IsRemoved result kept = (result ≡ Err log.Failed) × (kept ≡ Some fault.Removed)

-- with the next compaction tried when the file has 64 KiB more
abbrev pub postponed : HandleFacts → HandleFacts
postponed f = record f { tries_from = later f.cursor.file_length }

-- with the lock given back
abbrev pub freed : HandleFacts → HandleFacts
freed f = record f { cursor = let_go_of f.cursor; is_locked = false; looks = false }

-- It was let go of for a pause, or nothing changed.
abbrev pub Pauses : Bool → HandleFacts → HandleFacts → Type 0
Pauses true old new = new ≡ freed old
Pauses false old new = new ≡ old

-- ---- what its parts leave

-- Some bytes were read next, and nothing else changed.
pub record ReadsOn (old new : Place) : Type 0 where
  pub more : List ℕ
  pub is : new ≡ record old { ahead = old.ahead ++ more }

-- What was read is all that was left, and just a mark, and is cut off.
pub record CutsMark (old new : Place) : Type 0 where
  pub mark : IsMark old.ahead
  pub all : left old ≤ length old.ahead
  pub is : new ≡ cut old

-- What was read begins with: an entry, or nothing but what is torn, or no entry at all.
abbrev pub IsFront : Front → Place → Type 0
IsFront (Whole e count) p = Begins p.ahead e count
IsFront Unfinished p = ⊥
IsFront Torn p = IsTorn p.ahead × (left p ≤ length p.ahead)
IsFront Damaged p = (e : Entry) (count : ℕ) → Begins p.ahead e count → ⊥

-- why it refused, with its path
abbrev pub IsErrorOf : List ℕ → Option FileFault → Option FileLogError → Type 0
IsErrorOf path (Some why) (Some error) = (error.fault ≡ why) × (string_bytes error.path ≡ path)
IsErrorOf path None None = Unit {0}
IsErrorOf path (Some why) None = ⊥
IsErrorOf path None (Some error) = ⊥
