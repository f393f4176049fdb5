-- Why a log in a file refused: what it comes from, what a log answers, and the texts.
use Rattle.std.specs.Prelude.{ℕ, List, ◌++◌, codes, decimal}
use Rattle.std.specs.declared.io.ErrorKind.{ErrorKind}
use Rattle.std.specs.declared.io.ErrorKind.TheVariants as system
use Rattle.iceoryx2_log.specs.declared.log.LogError.{LogError}
use Rattle.iceoryx2_log.specs.declared.log.LogError.TheVariants as log
use Rattle.iceoryx2_file_log.specs.declared.error.FileFault.{FileFault}
use Rattle.iceoryx2_file_log.specs.declared.error.FileFault.TheVariants as fault

-- what a kind of the system's errors means for a log in a file
abbrev pub kind_fault : ErrorKind → FileFault
kind_fault system.PermissionDenied = fault.NoPermission
kind_fault system.ReadOnlyFilesystem = fault.NoPermission
kind_fault system.StorageFull = fault.DiskFull
kind_fault system.QuotaExceeded = fault.DiskFull
kind_fault system.OutOfMemory = fault.OutOfMemory
kind_fault system.IsADirectory = fault.IsAFolder
kind_fault system.FilesystemLoop = fault.IsALink
kind_fault kind = fault.Failed kind

-- What a file refuses by, of a log or not. Each other fault is a log's.
abbrev pub IsOfFile : FileFault → Type 0
IsOfFile fault.IsALink = Unit {0}
IsOfFile fault.IsAFolder = Unit {0}
IsOfFile fault.NotAFile = Unit {0}
IsOfFile fault.NoPermission = Unit {0}
IsOfFile fault.DiskFull = Unit {0}
IsOfFile fault.OutOfMemory = Unit {0}
IsOfFile (fault.Failed kind) = Unit {0}
IsOfFile other = ⊥

-- what a log answers
abbrev pub log_error_of : FileFault → LogError
log_error_of fault.Busy = log.Busy
log_error_of fault.OutOfMemory = log.OutOfMemory
log_error_of (fault.Damaged at) = log.Damaged
log_error_of fault.Moved = log.Moved
log_error_of other = log.Failed

-- what the system refused by, where no other fault says so
abbrev pub kind_text : ErrorKind → List ℕ
kind_text system.NotFound = codes "there is no such file or folder"
kind_text system.NotADirectory = codes "a part of its path is no folder"
kind_text system.InvalidFilename = codes "its name is too long"
kind_text system.FileTooLarge = codes "the file would be too long"
kind_text system.InvalidData = codes "a new file holds other bytes than were written to it"
kind_text kind = codes "the system refused"

abbrev pub fault_text : FileFault → List ℕ
fault_text fault.IsALink = codes "is a symbolic link"
fault_text fault.IsAFolder = codes "is a folder"
fault_text fault.NotAFile = codes "is no file"
fault_text fault.NotALog = codes "is no log"
fault_text (fault.AnotherVersion found) = codes "is a log of version " ++ decimal found
fault_text (fault.Damaged at) = codes "is damaged at byte " ++ decimal at
fault_text fault.NoPermission = codes "no permission"
fault_text fault.Busy = codes "others hold the log"
fault_text fault.DiskFull = codes "no room on the disk"
fault_text fault.OutOfMemory = codes "out of memory"
fault_text fault.TooLong = codes "an entry's body has at most 1048576 bytes"
fault_text fault.ReadOnly = codes "was opened to read only"
fault_text fault.HeldAlready = codes "the log is held already"
fault_text fault.NotHeld = codes "the log is not held"
fault_text fault.Unread = codes "entries of others are unread"
fault_text fault.Unsure = codes "a failed append may stand in the log"
fault_text fault.Moved = codes "the log has moved"
fault_text fault.Removed = codes "was removed or renamed"
fault_text fault.AnotherLog = codes "is another log"
fault_text fault.NothingSaved = codes "a compaction would save too little"
fault_text (fault.Failed kind) = kind_text kind

-- the path, and why its file refused
abbrev pub file_log_error_text : List ℕ → FileFault → List ℕ
file_log_error_text path f = path ++ codes ": " ++ fault_text f
