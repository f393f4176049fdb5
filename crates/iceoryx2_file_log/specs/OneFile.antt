-- What a handle knows of the one file in which it stands, and what its calls make of the contents.
use Rattle.std.specs.Prelude.{ℕ, ◌≡◌, ◌≢◌, ◌≤◌, ◌⊎◌, Bool, true, false, List, ◌++◌, length, take, drop}
use Rattle.std.specs.Prelude.{Option, Some, None, Result, Ok, Err}
use Rattle.iceoryx2_log.specs.declared.entry.Entry.{Entry}
use Rattle.iceoryx2_log.specs.declared.entry.Operation.TheVariants.{Moved}
use Rattle.iceoryx2_log.specs.Form.{Begins}
use Rattle.iceoryx2_log.specs.Log.{Contents}
use Rattle.iceoryx2_file_log.specs.declared.error.FileFault.{FileFault}
use Rattle.iceoryx2_file_log.specs.declared.cursor.State.TheVariants.{Free, Held}
use Rattle.iceoryx2_file_log.specs.declared.header.TheConstants.{HEADER_LENGTH}
use Rattle.iceoryx2_file_log.specs.declared.header.Header.{Header}
use Rattle.iceoryx2_file_log.specs.declared.one_file.Found.{Found}
use Rattle.iceoryx2_file_log.specs.declared.one_file.Found.TheVariants as there
use Rattle.iceoryx2_file_log.specs.Compaction.{BeginsWithMark, snapshot_end}
use Rattle.iceoryx2_file_log.specs.Place.{Place, state_after}
use Rattle.iceoryx2_file_log.specs.Handle.{Finds, EndsUncut}
use Rattle.iceoryx2_file_log.specs.Medium.{Known, AreBytes, BeginWith, Keeps, MayChangeFrom}
use Rattle.iceoryx2_file_log.specs.Bytes.{Reading}
use Rattle.iceoryx2_file_log.specs.Entries.{entries_in}

-- ---- what a log in known bytes contains

-- what stands behind a handle's position, as far as it knows that the file goes
abbrev pub unread_bytes : Place → List ℕ → List ℕ
unread_bytes p bytes = drop p.position (take p.file_length bytes)

-- The entries between the header and the position, and those behind it. The counter begins with this number.
abbrev pub contents_in : (begins : ℕ) → Place → List ℕ → Contents
contents_in begins p bytes = record {
  begins = begins;
  taken = entries_in (drop HEADER_LENGTH (take p.position bytes));
  unread = entries_in (unread_bytes p bytes);
}

abbrev pub contents_of : (begins : ℕ) → Option Known → Place → Option Contents
contents_of begins None p = None
contents_of begins (Some k) p = Some (contents_in begins p k.bytes)

-- Whatever the counter begins with, the contents are the same.
abbrev pub SameContents : Option Known → Place → Option Known → Place → Type 0
SameContents o p m q = (begins : ℕ) → contents_of begins m q ≡ contents_of begins o p

-- ---- what is true of a handle at any time

-- What was found is the entry at the position, which is no mark, or nothing was.
abbrev pub IsFound : ℕ → List ℕ → Type 0
IsFound count rest = (count ≡ 0) ⊎ ((e : Entry) × Begins rest e count × (e.operation ≢ Moved))

-- While it is held: what was read ahead stands there, and the rule is kept.
pub record Holding (p : Place) (k : Known) : Type 0 where
  pub reading : Reading p k
  pub entry : p.found ≤ length p.ahead
  pub keeps : Keeps k.standing k.bytes

-- The position is where a header and some entries end, and what was found begins there.
pub record Fits (p : Place) (k : Known) : Type 0 where
  pub taken : List Entry
  pub begins : BeginWith taken (take p.position k.bytes) k.bytes
  pub within : p.position ≤ length k.bytes
  pub known : p.position ≤ p.file_length
  pub are_bytes : AreBytes k.bytes
  pub found : IsFound p.found (unread_bytes p k.bytes)
  pub held : p.state ≡ Held → Holding p k
  pub free : p.state ≡ Free → k.locked ≡ false

-- whether the lock is known to be there
abbrev pub lock_of : Option Known → Option Bool
lock_of None = None
lock_of (Some k) = Some k.locked

-- What is known of the lock is this.
abbrev pub KnowsLock : Bool → Known → Type 0
KnowsLock is_locked k = k.locked ≡ is_locked

-- after a call that was refused for this reason
abbrev pub refused : FileFault → Place → Place
refused why p = record p { state = state_after why p.state }

-- ---- between a write that failed and what is done about it

-- Behind the position stands some of what was written, and nothing that stood before.
pub record Left (p : Place) (k : Known) : Type 0 where
  pub taken : List Entry
  pub begins : BeginWith taken (take p.position k.bytes) k.bytes
  pub may_change : MayChangeFrom p.position k
  pub are_bytes : AreBytes k.bytes
  pub was_held : p.state ≡ Held
  pub all_read : p.file_length ≡ p.position
  pub none_ahead : length p.ahead ≡ 0
  pub none_found : p.found ≡ 0

-- Where it is wanted all outlives the machine.
abbrev pub IsSafe : (synchronizes : Bool) → Known → Type 0
IsSafe synchronizes k = synchronizes ≡ true → k.synchronized ≡ true

-- Nothing was cut off, or all outlives the machine where that is wanted.
abbrev pub SparesOrIsSafe : (synchronizes : Bool) → Known → Known → Type 0
SparesOrIsSafe synchronizes old new = (new.bytes ≡ old.bytes) ⊎ IsSafe synchronizes new

-- ---- what stands next

-- the entry, where it is one
abbrev pub entry_of : Found → Option Entry
entry_of (there.Entry e) = Some e
entry_of other = None

-- whether it is an entry
abbrev pub is_entry : {E : Type 0} → Result Found E → Bool
is_entry (Ok (there.Entry e)) = true
is_entry (Ok there.End) = false
is_entry (Ok (there.Mark count)) = false
is_entry (Err error) = false

-- What was read, with some more, begins with a mark, which is left there.
pub record ShowsMark (count : ℕ) (old new : Place) : Type 0 where
  pub more : List ℕ
  pub is : new ≡ record old { ahead = old.ahead ++ more; found = 0 }
  pub mark : BeginsWithMark new.ahead count

-- The entry stands at the position, or the file ends there, or a mark stands there.
abbrev pub ShowsNext : Found → Place → Place → Type 0
ShowsNext (there.Entry e) old new = Finds e old new
ShowsNext there.End old new = new.file_length ≡ new.position
ShowsNext (there.Mark count) old new = ShowsMark count old new

-- The same where nothing is written: what is torn at the end stays there, and a mark is shown only as the last entry.
abbrev pub ShowsUnwritten : Found → Place → Place → Type 0
ShowsUnwritten (there.Entry e) old new = Finds e old new
ShowsUnwritten there.End old new = EndsUncut new
ShowsUnwritten (there.Mark count) old new = EndsUncut new

-- Where no entry comes, the whole snapshot is taken over.
abbrev pub IsEntryOrPast : Found → Header → Place → Type 0
IsEntryOrPast (there.Entry e) h p = Unit {0}
IsEntryOrPast there.End h p = snapshot_end h ≤ p.position
IsEntryOrPast (there.Mark count) h p = snapshot_end h ≤ p.position

-- Where the file ends, the whole snapshot is taken over.
abbrev pub EndsPastSnapshot : Found → Header → Place → Type 0
EndsPastSnapshot (there.Entry e) h p = Unit {0}
EndsPastSnapshot there.End h p = snapshot_end h ≤ p.position
EndsPastSnapshot (there.Mark count) h p = Unit {0}

-- Where the file ends no byte stands at the position.
abbrev pub EndsThere : Found → Place → Known → Type 0
EndsThere (there.Entry e) p k = Unit {0}
EndsThere there.End p k = p.position ≡ length k.bytes
EndsThere (there.Mark count) p k = Unit {0}

abbrev pub EndsWhereNone : Option Entry → Place → Known → Type 0
EndsWhereNone None p k = p.position ≡ length k.bytes
EndsWhereNone (Some e) p k = Unit {0}
