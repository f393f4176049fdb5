-- A session over a traced storage, and the accesses of a command.
use Rattle.std.specs.Prelude.{◌≡◌, ℕ, ◌+◌, ◌-◌, ◌^◌, ◌≤◌, List, [], length, map, replicate, None}
use Rattle.iceoryx2_access.specs.Letter.{Letter}
use Rattle.iceoryx2_access.specs.Run.{Run}
use Rattle.iceoryx2_description.specs.Defaults.{default_config}
use Rattle.iceoryx2_testing.specs.Entries.{entry_of}
use Rattle.iceoryx2_testing.specs.Trace.{TracedState, IsTracedAccess, latest}
use Rattle.iceoryx2_world.specs.World.{World, empty_world}
use Rattle.iceoryx2_world.specs.Tables.{TableState, IsTableAccess}
use Rattle.iceoryx2_builder.specs.Commands.{slot_count}
use Rattle.iceoryx2_builder.specs.declared.command.Command.{Command}
use Rattle.iceoryx2_builder.specs.declared.command.Reply.{Reply}
use Rattle.iceoryx2_session.specs.CommandWords.{IsCommandWord}
use Rattle.iceoryx2_session.specs.Sessions.{SessionOver, SessionState, AppliesBy, shown_session}

-- how many accesses are kept: as many as the longest word of a command has, of six rounds with a look and six openings
abbrev pub room_kept : ℕ
room_kept = 264

-- ---- over any storage

-- a session over a traced storage that is seen as an S
abbrev pub TracedOver : Type 0 → Type 0
TracedOver S = SessionOver (TracedState S)

-- how many accesses there were from one state to the other
abbrev pub made_between : {S : Type 0} → (old new : TracedOver S) → ℕ
made_between old new = new.table.total - old.table.total

-- the storage with no access kept, and with room
abbrev pub fresh_trace : {S : Type 0} → S → TracedState S
fresh_trace inner = record { inner = inner; entries = []; room = room_kept; total = 0 }

-- The trace has its room, and keeps no more.
pub record HasItsRoom {S : Type 0} (traced : TracedState S) : Type 0 where
  pub room : traced.room ≡ room_kept
  pub kept : length traced.entries ≤ room_kept

-- A command goes as it does over any storage, along its word. There is room for all accesses of this word: they are the
-- latest that are kept, and as many as were made, up to the greatest number that is counted.
pub record AppliesTracedBy {S : Type 0} (step : S → Letter → S → Type 0) (world : S → World) (old : TracedOver S)
    (c : Command) (reply : Reply) (new : TracedOver S) : Type 0 where
  pub goes : AppliesBy (IsTracedAccess step) (λ traced. world traced.inner) old c reply new
  pub word : List Letter
  pub is_word : IsCommandWord old.config old.slots c reply word
  pub run : Run (IsTracedAccess step) old.table word new.table
  pub short : length word ≤ room_kept
  pub made : old.table.total + length word ≤ 2 ^ 64 - 1 → made_between old new ≡ length word
  pub kept : latest (length word) new.table.entries ≡ map entry_of word

-- ---- over a table

-- what a table makes of an access, with its entry kept
abbrev pub IsAccess : TracedState TableState → Letter → TracedState TableState → Type 0
IsAccess = IsTracedAccess IsTableAccess

abbrev pub table_inside : TracedState TableState → TableState
table_inside traced = traced.inner

abbrev pub TracedSession : Type 0
TracedSession = TracedOver TableState

-- over the table inside
abbrev pub session_inside : TracedSession → SessionState
session_inside s = shown_session table_inside s

-- the world of a table
abbrev pub table_world : TableState → World
table_world table = table.world

-- It begins over an empty table, with free slots and no access.
abbrev pub first_session : TracedSession
first_session = record {
  config = default_config;
  table = fresh_trace (record { world = empty_world 0; waiting = []; skipped = 0 });
  slots = replicate slot_count None;
}

-- a command goes so over a traced table
abbrev pub AppliesTraced : TracedSession → Command → Reply → TracedSession → Type 0
AppliesTraced = AppliesTracedBy IsTableAccess table_world
