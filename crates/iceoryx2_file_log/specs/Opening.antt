-- What is opened as the file of a log.
use Rattle.std.specs.Prelude.{◌≡◌, Option, Some, None}
use Rattle.std.specs.declared.fs.attrs.FileType.{FileType}
use Rattle.std.specs.Fs.{IsFile, IsDir, IsSymlink}
use Rattle.iceoryx2_file_log.specs.declared.header.HeaderError.{HeaderError}
use Rattle.iceoryx2_file_log.specs.declared.header.HeaderError.TheVariants as header
use Rattle.iceoryx2_file_log.specs.declared.error.FileFault.{FileFault}
use Rattle.iceoryx2_file_log.specs.declared.error.FileFault.TheVariants as fault

-- why something of this type is not opened, if so: a file alone is
pub record IsFaultOf (type : FileType) (found : Option FileFault) : Type 0 where
  pub file : IsFile type → found ≡ None
  pub link : IsSymlink type → found ≡ Some fault.IsALink
  pub folder : IsDir type → found ≡ Some fault.IsAFolder
  pub other : (IsFile type → ⊥) → (IsSymlink type → ⊥) → (IsDir type → ⊥) → found ≡ Some fault.NotAFile

-- why a log is not opened that begins so
abbrev pub header_fault_of : HeaderError → FileFault
header_fault_of header.NotALog = fault.NotALog
header_fault_of (header.AnotherVersion found) = fault.AnotherVersion found
header_fault_of header.Damaged = fault.Damaged 0
