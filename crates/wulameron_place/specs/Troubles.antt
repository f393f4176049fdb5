-- What goes wrong at a log, and what is written of it.
use Rattle.std.specs.Prelude.{ℕ, Bool, true, false, List, ◌++◌, Option, Some, None, Result, Err}
use Rattle.std.specs.Prelude.{codes}
use Rattle.std.specs.Io.KnownBytes.{Appends}
use Rattle.std.specs.declared.io.ErrorKind.{ErrorKind}
use Rattle.std.specs.declared.io.ErrorKind.TheVariants as system
use Rattle.iceoryx2_file_log.specs.declared.error.FileFault.{FileFault}
use Rattle.iceoryx2_file_log.specs.declared.error.FileFault.TheVariants as file
use Rattle.iceoryx2_file_log.specs.declared.cursor.State.{State}
use Rattle.iceoryx2_file_log.specs.declared.cursor.State.TheVariants as state
use Rattle.iceoryx2_file_log.specs.Errors.{fault_text}
use Rattle.iceoryx2_postgres_log.specs.declared.fault.PostgresFault.{PostgresFault}
use Rattle.iceoryx2_postgres_log.specs.declared.fault.PostgresFault.TheVariants as database
use Rattle.iceoryx2_postgres_log.specs.Faults.{is_over_by}
use Rattle.iceoryx2_postgres_log.specs.Faults.{fault_text as database_text}
use Rattle.negotiate_lines.specs.Escapes.{escaped}
use Rattle.negotiate_serve.specs.declared.ending.ServeError.{ServeError}
use Rattle.negotiate_serve.specs.declared.ending.ServeError.TheVariants as failure
use Rattle.negotiate_serve.specs.Outputs.{Writes}
use Rattle.negotiate_serve.specs.Reports.{failure_line}
use Rattle.wulameron_arguments.specs.Places.{is_in_database}
use Rattle.wulameron_place.specs.declared.trouble.Trouble.{Trouble}
use Rattle.wulameron_place.specs.declared.trouble.Trouble.TheVariants as trouble

-- what goes wrong at a journal: an entry ended it, or else what its log refused last
abbrev pub trouble_of : (is_over : Bool) → Option Trouble → Option Trouble
trouble_of true refused = Some trouble.Over
trouble_of false refused = refused

-- what a user has to know of why a file refused: not that the log goes on elsewhere, or isn't worth a compaction
abbrev pub file_concern_of : Option FileFault → Option Trouble
file_concern_of None = None
file_concern_of (Some file.Moved) = None
file_concern_of (Some file.NothingSaved) = None
file_concern_of (Some fault) = Some (trouble.Refused fault)

-- the same, but for damage that was found while the log wasn't held: a handle that found it while it was is damaged
abbrev pub file_concern_held_of : State → Option FileFault → Option Trouble
file_concern_held_of (state.Damaged x) (Some (file.Damaged at)) = Some (trouble.Refused (file.Damaged at))
file_concern_held_of s (Some (file.Damaged at)) = None
file_concern_held_of s other = file_concern_of other

-- the same of a database
abbrev pub database_concern_of : Option PostgresFault → Option Trouble
database_concern_of None = None
database_concern_of (Some database.Moved) = None
database_concern_of (Some database.NothingSaved) = None
database_concern_of (Some fault) = Some (trouble.Database fault)

-- a log that is over, is damaged, has lost its path or its session, may have an entry that nobody knows of, or has lost
-- what was held isn't used any more
abbrev pub is_last : Trouble → Bool
is_last trouble.Over = true
is_last (trouble.Refused (file.Damaged at)) = true
is_last (trouble.Refused file.Unsure) = true
is_last (trouble.Refused file.Removed) = true
is_last (trouble.Refused other) = false
is_last (trouble.Database (database.Damaged number)) = true
is_last (trouble.Database other) = is_over_by other
is_last trouble.Gone = true

-- a log in a database may go on in another session where this one ended, or tells what nobody asked for
abbrev pub is_cut : Trouble → Bool
is_cut (trouble.Database database.SessionEnded) = true
is_cut (trouble.Database database.Unsure) = true
is_cut (trouble.Database database.NotUnderstood) = true
is_cut (trouble.Database database.ReadOnly) = true
is_cut (trouble.Database (database.Refused state)) = true
is_cut other = false

-- what goes wrong, and else whether what was held is gone
abbrev pub or_gone : (is_gone : Bool) → Option Trouble → Option Trouble
or_gone true None = Some trouble.Gone
or_gone false None = None
or_gone is_gone (Some t) = Some t

-- the trouble, where it is the last one
abbrev pub only_last : Trouble → Bool → Option Trouble
only_last t true = Some t
only_last t false = None

abbrev pub last_of : Option Trouble → Option Trouble
last_of None = None
last_of (Some t) = only_last t (is_last t)

-- what can be done where the system refused by this kind
abbrev pub kind_advice_of : ErrorKind → List ℕ
kind_advice_of system.NotFound = codes "make its folder, or name another file"
kind_advice_of system.NotADirectory = codes "name another file"
kind_advice_of system.InvalidFilename = codes "name another file"
kind_advice_of kind = codes "see whether its disk works"

-- what can be done where a file refused
abbrev pub advice_of : FileFault → List ℕ
advice_of file.IsALink = codes "name the file itself"
advice_of file.IsAFolder = codes "name a file in it"
advice_of file.NotAFile = codes "name a file"
advice_of file.NotALog = codes "name another file"
advice_of (file.AnotherVersion found) = codes "use a program of that version"
advice_of (file.Damaged at) = codes "begin another log"
advice_of file.NoPermission = codes "let this user read and write it"
advice_of file.Busy = codes "try again, or with a longer --wait"
advice_of file.DiskFull = codes "make room, and try again"
advice_of file.OutOfMemory = codes "free memory, and try again"
advice_of file.TooLong = codes "give the service fewer attributes"
advice_of file.HeldAlready = codes "start the program again"
advice_of file.NotHeld = codes "start the program again"
advice_of file.ReadOnly = codes "start the program again"
advice_of file.Unread = codes "start the program again"
advice_of file.Unsure = codes "start the program again"
advice_of file.Moved = codes "try again"
advice_of file.Removed = codes "start the program again"
advice_of file.AnotherLog = codes "start the program again"
advice_of file.NothingSaved = codes "leave it"
advice_of (file.Failed kind) = kind_advice_of kind

-- what can be done where a database refused
abbrev pub database_advice_of : PostgresFault → List ℕ
database_advice_of database.Busy = codes "try again, or with a longer --wait"
database_advice_of database.OutOfMemory = codes "free memory, and try again"
database_advice_of database.SessionEnded = codes "see whether the server runs, and start the program again"
database_advice_of database.Unsure = codes "start the program again"
database_advice_of database.NotUnderstood =
    codes "start it by wulameron-postgres, with the server's messages in English"
database_advice_of database.NoSchema = codes "have its owner run schema.sql in it"
database_advice_of (database.AnotherVersion found) = codes "use a program of that version"
database_advice_of database.NoLog = codes "name another log, or make it by `wulameron-postgres hold`"
database_advice_of database.BadName = codes "name it by letters, digits, points, dashes and underscores"
database_advice_of database.NoRight = codes "have its owner grant wulameron_node to the role"
database_advice_of database.ReadOnly = codes "connect to the server that takes writes"
database_advice_of database.AnotherHistory = codes "start the program again"
database_advice_of (database.Damaged number) = codes "begin another log"
database_advice_of database.HeldAlready = codes "start the program again"
database_advice_of database.NotHeld = codes "start the program again"
database_advice_of database.IsAMark = codes "start the program again"
database_advice_of database.Unread = codes "start the program again"
database_advice_of database.TooLong = codes "give the service fewer attributes"
database_advice_of database.Moved = codes "try again"
database_advice_of database.NothingSaved = codes "leave it"
database_advice_of (database.Refused state) = codes "see the server's log"

abbrev pub trouble_text : Trouble → Option (List ℕ)
trouble_text trouble.Over = Some (codes "has an entry that this program can't follow; start it with a node of its own")
trouble_text (trouble.Refused f) = Some (fault_text f ++ codes "; " ++ advice_of f)
trouble_text (trouble.Database f) = Some (database_text f ++ codes "; " ++ database_advice_of f)
trouble_text trouble.Gone =
    Some (codes "the session had ended, and what this node held is gone; start the program again")

-- what is written of why a log isn't opened, behind its path
abbrev pub unopened_text : Trouble → Option (List ℕ)
unopened_text (trouble.Refused (file.Failed system.NotFound)) =
    Some (codes "there is no log; name another by --at, or make it by `wulameron hold`")
unopened_text other = trouble_text other

-- what is told where something of a node stays, with the command that releases it
abbrev pub stays_by : (is_in_database : Bool) → List ℕ
stays_by true = codes "the log refused to release what this node holds; run `wulameron-postgres clean`"
stays_by false = codes "the log refused to release what this node holds; run `wulameron clean`"

abbrev pub stays_text : (path : List ℕ) → List ℕ
stays_text path = stays_by (is_in_database path)

-- the line of a trouble with the log of this path
abbrev pub trouble_line : (path text : List ℕ) → List ℕ
trouble_line path text = codes "wulameron: " ++ escaped path ++ codes ": " ++ text ++ codes "\n"

-- the line that there is no memory
abbrev pub no_memory_line : List ℕ
no_memory_line = failure_line (codes "wulameron") failure.OutOfMemory

-- The line that there is no memory is written whole, or the writer fails and has taken a front of it.
pub data WritesNoMemory : ServeError → (old new : Option (List ℕ)) → Type 0 where
  whole : {old new : Option (List ℕ)} → Appends old new no_memory_line → WritesNoMemory failure.OutOfMemory old new
  failed : {f : ServeError} {old new : Option (List ℕ)} → Writes no_memory_line (Err f) old new
      → WritesNoMemory f old new

-- The line is written, as far as the writer takes it. If there was no memory for it, the line of that is written so:
-- memory is what is answered only after that line was written whole.
pub data WritesLine (line : List ℕ) : Result (Unit {0}) ServeError → (old new : Option (List ℕ)) → Type 0 where
  written : {result : Result (Unit {0}) ServeError} {old new : Option (List ℕ)} → Writes line result old new
      → WritesLine line result old new
  no_memory : {f : ServeError} {old new : Option (List ℕ)} → WritesNoMemory f old new → WritesLine line (Err f) old new
