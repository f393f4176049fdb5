-- Where a handle stands in the file of its log.
use Rattle.std.specs.Prelude.{ℕ, ◌+◌, ◌-◌, ◌≤◌, List, [], length, drop, Option, Some, None}
use Rattle.iceoryx2_file_log.specs.declared.error.FileFault.{FileFault}
use Rattle.iceoryx2_file_log.specs.declared.error.FileFault.TheVariants as fault
use Rattle.iceoryx2_file_log.specs.declared.cursor.State.{State}
use Rattle.iceoryx2_file_log.specs.declared.cursor.State.TheVariants.{Free, Held, Unsure, Damaged}

pub record Place : Type 0 where
  pub state : State
  -- where the entries end that were taken over or appended
  pub position : ℕ
  -- how long the file was when it was held, and after what this handle has done since
  pub file_length : ℕ
  -- what was read of the file from the position on
  pub ahead : List ℕ
  -- how many of these bytes the entry has that was found last, and 0 where none was
  pub found : ℕ

-- What was read stands within the file, and what was found within that.
pub record IsPlace (position file_length : ℕ) (ahead : List ℕ) (found : ℕ) : Type 0 where
  pub within : position + length ahead ≤ file_length
  pub entry : found ≤ length ahead

-- free, with nothing read from this position on
abbrev pub start : ℕ → Place
start position = record { state = Free; position = position; file_length = position; ahead = []; found = 0 }

-- how many bytes of the file stand from the position on
abbrev pub left : Place → ℕ
left p = p.file_length - p.position

-- held, and nothing was read yet
abbrev pub held : ℕ → Place → Place
held file_length p = record { state = Held; position = p.position; file_length = file_length; ahead = []; found = 0 }

-- The file was measured, and nothing was read yet.
abbrev pub looked_to : ℕ → Place → Place
looked_to file_length p = record p { file_length = file_length; ahead = []; found = 0 }

-- with the entry that was found taken over
abbrev pub accepted : Place → Place
accepted p = record p { position = p.position + p.found; ahead = drop p.found p.ahead; found = 0 }

-- The file ends at the position.
abbrev pub cut : Place → Place
cut p = record p { file_length = p.position; ahead = []; found = 0 }

-- The file has so many bytes more, and the position is at its end.
abbrev pub appended : ℕ → Place → Place
appended count p = record p { position = p.position + count; file_length = p.position + count }

-- ---- the state

-- why the handle can't hold the log
abbrev pub why_not_free : State → Option FileFault
why_not_free Free = None
why_not_free Held = Some fault.HeldAlready
why_not_free Unsure = Some fault.Unsure
why_not_free (Damaged at) = Some (fault.Damaged at)

-- why the handle can't read or append
abbrev pub why_not_held : State → Option FileFault
why_not_held Free = Some fault.NotHeld
why_not_held Held = None
why_not_held Unsure = Some fault.Unsure
why_not_held (Damaged at) = Some (fault.Damaged at)

-- After damage or doubt it is used no more, and any other refusal leaves it as it was.
abbrev pub state_after : FileFault → State → State
state_after (fault.Damaged at) s = Damaged at
state_after fault.Unsure s = Unsure
state_after other s = s

-- A held one is free, and one that is used no more stays so.
abbrev pub let_go_state : State → State
let_go_state Held = Free
let_go_state s = s

abbrev pub let_go_of : Place → Place
let_go_of p = record p { state = let_go_state p.state; ahead = []; found = 0 }
