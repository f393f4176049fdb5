-- Who may read and write the file of a log.
use Rattle.std.specs.Prelude.{ℕ}
use Rattle.iceoryx2_file_log.specs.declared.options.Sharing.{Sharing}
use Rattle.iceoryx2_file_log.specs.declared.options.Sharing.TheVariants.{User, Group}

-- the bits of a file's mode
abbrev pub mode_of : Sharing → ℕ
mode_of User = 0o600
mode_of Group = 0o660
