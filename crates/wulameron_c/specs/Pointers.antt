-- What a `SessionPointer` owns, and when a handle can be trusted.
use Rattle.std.specs.Prelude.{◌≡◌, ◌≢◌, ℕ, IsSome}
use base.Fml.{Fml, ftrue}
use base.Stored.{Coded}
use denote.RawPtr.{Ptr}
use Rattle.std.specs.Coded.{coded_option}
use Rattle.std.specs.Box.Ownership.{box_owns}
use Rattle.std.specs.contracts.impls.GlobalAllocator.TheImpl.{ghosts}
use Rattle.std.specs.declared.alloc.Global.{Global}
use Rattle.std.specs.declared.option.Option.{Option}
use Rattle.std.specs.declared.option.Option.TheVariants.{None, Some}
use Rattle.wulameron_c.specs.contracts.table_session.TableSession.{the_row}
use Rattle.wulameron_c.specs.declared.table_session.TableSession.{TableSession}
use Rattle.wulameron_c.specs.TableSessions.{IsFresh}

-- where a session is held it lies there, and its block may be freed
abbrev pub pointer_owns : Global → Ptr → Option TableSession → Fml
pointer_owns alloc pointer None = ftrue
pointer_owns alloc pointer (Some session) = box_owns (ghosts.dealloc_token alloc) the_row pointer session

-- how a session that may be held is stored in the logic: by the session's own code
abbrev pub session_coded : Coded (Option TableSession)
session_coded = coded_option the_row.coded

-- the mark of an open handle: `wulamero` in ASCII
abbrev pub open_mark : ℕ
open_mark = 8607905428491563631

-- A handle with the mark of an open one holds a session.
abbrev pub IsSound : ℕ → Option TableSession → Type 0
IsSound mark session = mark ≡ open_mark → IsSome session

-- A handle is opened, where it isn't open and there is memory. Else all stays.
pub data Opens (mark : ℕ) (old : Option TableSession) : (code new_mark : ℕ) → Option TableSession → Type 0 where
  is_open : mark ≡ open_mark → Opens mark old 24 mark old
  opened : {s : TableSession} → mark ≢ open_mark → IsFresh s → Opens mark old 0 open_mark (Some s)
  no_memory : mark ≢ open_mark → Opens mark old 4 mark old

-- An open handle is closed, and holds nothing then. One that isn't open stays.
pub data Closes (mark : ℕ) (old : Option TableSession) : (code new_mark : ℕ) → Option TableSession → Type 0 where
  not_open : mark ≢ open_mark → Closes mark old 23 mark old
  closed : mark ≡ open_mark → Closes mark old 0 0 None

-- A call does this to the session of an open handle. Where the handle isn't open the code is 23, and all stays.
pub data Acts (mark : ℕ) (old new : Option TableSession) (code : ℕ) (goes : TableSession → TableSession → Type 0)
    (kept : Type 0) : Type 0 where
  not_open : mark ≢ open_mark → code ≡ 23 → new ≡ old → kept → Acts mark old new code goes kept
  acted : {s t : TableSession} → mark ≡ open_mark → old ≡ Some s → new ≡ Some t → goes s t
      → Acts mark old new code goes kept
