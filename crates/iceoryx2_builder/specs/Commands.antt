-- What a session is given.
use Rattle.std.specs.Prelude.{ℕ}
use Rattle.iceoryx2_builder.specs.declared.command.TheConstants.{SLOTS}

-- how many slots a session has, from 0 on
abbrev pub slot_count : ℕ
slot_count = SLOTS
