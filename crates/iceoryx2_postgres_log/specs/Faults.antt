-- Why a log in a database refused: what it comes from, what a log answers, and the texts.
use Rattle.std.specs.Prelude.{◌≡◌, ◌⊎◌, ℕ, Bool, true, false}
use Rattle.std.specs.Prelude.{List, [], ◌++◌, codes, decimal, get_or, bytes_eq, if◌then◌else◌}
use Rattle.std.specs.Char.{encode_utf8}
use Rattle.iceoryx2_log.specs.declared.log.LogError.{LogError}
use Rattle.iceoryx2_log.specs.declared.log.LogError.TheVariants as log
use Rattle.iceoryx2_postgres_log.specs.declared.fault.PostgresFault.{PostgresFault}
use Rattle.iceoryx2_postgres_log.specs.declared.fault.PostgresFault.TheVariants as fault

-- what an SQLSTATE other than 00000 means
abbrev pub state_fault : List ℕ → PostgresFault
state_fault state =
    if bytes_eq state (codes "55P03") then fault.Busy
    else if bytes_eq state (codes "3F000") then fault.NoSchema
    else if bytes_eq state (codes "42883") then fault.NoSchema
    else if bytes_eq state (codes "42P01") then fault.NoSchema
    else if bytes_eq state (codes "42501") then fault.NoRight
    else if bytes_eq state (codes "25006") then fault.ReadOnly
    else fault.Refused state

-- whether a handle that meets this fault asks nothing any more
abbrev pub is_over_by : PostgresFault → Bool
is_over_by fault.SessionEnded = true
is_over_by fault.Unsure = true
is_over_by fault.NotUnderstood = true
is_over_by fault.NoSchema = true
is_over_by fault.NoRight = true
is_over_by fault.ReadOnly = true
is_over_by fault.AnotherHistory = true
is_over_by (fault.Refused state) = true
is_over_by other = false

-- There was no memory, or the handle asks nothing any more.
abbrev pub IsGrave : PostgresFault → Type 0
IsGrave why = (why ≡ fault.OutOfMemory) ⊎ (is_over_by why ≡ true)

-- what a log answers
abbrev pub log_error_of : PostgresFault → LogError
log_error_of fault.Busy = log.Busy
log_error_of fault.OutOfMemory = log.OutOfMemory
log_error_of (fault.Damaged number) = log.Damaged
log_error_of fault.Moved = log.Moved
log_error_of other = log.Failed

-- the five bytes of an SQLSTATE, each as a character, and what stands behind them
abbrev pub state_text : List ℕ → List ℕ → List ℕ
state_text state behind =
    encode_utf8 (get_or state 0 0) ++ (encode_utf8 (get_or state 1 0) ++ (encode_utf8 (get_or state 2 0)
    ++ (encode_utf8 (get_or state 3 0) ++ (encode_utf8 (get_or state 4 0) ++ behind))))

abbrev pub fault_text : PostgresFault → List ℕ
fault_text fault.Busy = codes "others hold the log"
fault_text fault.OutOfMemory = codes "out of memory"
fault_text fault.SessionEnded = codes "the session with the database has ended"
fault_text fault.Unsure = codes "an append was not confirmed and may stand in the log"
fault_text fault.NotUnderstood = codes "the database answered something else"
fault_text fault.NoSchema = codes "the database has no tables for logs"
fault_text (fault.AnotherVersion found) = codes "the tables are of version " ++ decimal found
fault_text fault.NoLog = codes "the database has no log of this name"
fault_text fault.BadName = codes "is no name of a log"
fault_text fault.NoRight = codes "the role lacks a right"
fault_text fault.ReadOnly = codes "the database is read-only"
fault_text fault.AnotherHistory = codes "the log is not the one that was read before"
fault_text (fault.Damaged number) = codes "is damaged at entry " ++ decimal number
fault_text fault.HeldAlready = codes "the log is held already"
fault_text fault.NotHeld = codes "the log is not held"
fault_text fault.Unread = codes "entries of others are unread"
fault_text fault.TooLong = codes "an entry's body has at most 1048576 bytes"
fault_text fault.IsAMark = codes "a mark is not appended"
fault_text fault.Moved = codes "the log has moved"
fault_text fault.NothingSaved = codes "a compaction would save too little"
fault_text (fault.Refused state) = codes "the database refused (SQLSTATE " ++ state_text state (codes ")")

-- what stands in it behind its words
abbrev pub behind_words : PostgresFault → List ℕ
behind_words (fault.AnotherVersion found) = decimal found
behind_words (fault.Damaged number) = decimal number
behind_words (fault.Refused state) = state_text state (codes ")")
behind_words other = []
