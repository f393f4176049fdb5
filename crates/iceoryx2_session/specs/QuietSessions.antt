-- A session over a table that nobody else uses, and what a command makes of it: one step of a map.
use Rattle.std.specs.Prelude.{◌≡◌, ◌≤◌, ◌↔◌, ℕ, List, [], Vec, Option, Some, None, Result, Ok, Err}
use Rattle.std.specs.Prelude.{IsTrue, slice_set}
use Rattle.std.specs.declared.alloc.Global.{Global}
use Rattle.iceoryx2_description.specs.declared.description.ServiceHash.{ServiceHash}
use Rattle.iceoryx2_description.specs.declared.config.Config.{Config}
use Rattle.iceoryx2_world.specs.declared.listing.Entry.{Entry}
use Rattle.iceoryx2_world.specs.World.{tag_of}
use Rattle.iceoryx2_world.specs.Tables.{TableState}
use Rattle.iceoryx2_world.specs.Agreement.{Agrees}
use Rattle.iceoryx2_access.specs.Run.{Run}
use Rattle.iceoryx2_access.specs.Registered.{Registered}
use Rattle.iceoryx2_builder.specs.declared.command.Call.{Call}
use Rattle.iceoryx2_builder.specs.declared.command.Command.{Command}
use Rattle.iceoryx2_builder.specs.declared.command.Command.TheVariants as command
use Rattle.iceoryx2_errors.specs.declared.refusal.Refusal.{Refusal}
use Rattle.iceoryx2_builder.specs.declared.command.Reply.{Reply}
use Rattle.iceoryx2_builder.specs.declared.command.Reply.TheVariants as reply
use Rattle.iceoryx2_session.specs.PatternCalls.{PatternCall}
use Rattle.iceoryx2_builder.specs.Commands.{slot_count}
use Rattle.iceoryx2_session.specs.Slots.{FreeAt, HoldsAt, TakenAt}
use Rattle.iceoryx2_session.specs.Patterns.{builder_call}
use Rattle.iceoryx2_session.specs.Sessions.{SessionState, Applies}
use Rattle.iceoryx2_session.specs.CommandLists.{CarriesOut}
use Rattle.iceoryx2_call_laws.specs.Quiet.{Quiet, Shows}
use Rattle.iceoryx2_call_laws.specs.QuietCalls.{Closes}
use Rattle.iceoryx2_rounds.specs.BuilderCalls.{ErrorBy}
use Rattle.iceoryx2_call_laws.specs.QuietWays.{Answers}
use Rattle.iceoryx2_rounds.specs.Answers.{map_err}
use Rattle.iceoryx2_call_laws.specs.QuietLaws.{HoldsTheSame, times_opened}
use Rattle.iceoryx2_call_laws.specs.QuietLists.{listing}

-- The session's table shows the machine's state, its world agrees, and no steps of peers wait at it.
pub record IsQuiet (s : SessionState) (q : Quiet) : Type 0 where
  pub shows : Shows s.table.world q
  pub agrees : Agrees s.table.world
  pub waiting : s.table.waiting ≡ []

-- What the machine answers to a builder call, and its state after it.
abbrev pub AnswersCall : Quiet → PatternCall → Result Registered Refusal → Quiet → Type 0
AnswersCall q b answer p =
    (own : Result Registered (ErrorBy b.open_error b.create_error b.call.way))
    × (answer ≡ map_err b.refusal_of own) × Answers b.call b.call.way q own p

-- A command with its reply moves the machine and the slots.
pub data Moves (config : Config) (q : Quiet) (slots : List (Option Registered))
    : Command → Reply → Quiet → List (Option Registered) → Type 0 where
  call_past : {call : Call} → slot_count ≤ call.slot
      → Moves config q slots (command.Call call) reply.NoSuchSlot q slots
  call_taken : {call : Call} → TakenAt slots call.slot
      → Moves config q slots (command.Call call) reply.SlotInUse q slots
  called : {call : Call} (f : Registered) {p : Quiet} → FreeAt slots call.slot
      → AnswersCall q (builder_call config call) (Ok f) p
      → Moves config q slots (command.Call call) (reply.Opened call.slot f.number) p
      (slice_set slots call.slot (Some f))
  refused : {call : Call} {e : Refusal} {p : Quiet} → FreeAt slots call.slot
      → AnswersCall q (builder_call config call) (Err e) p
      → Moves config q slots (command.Call call) (reply.Refused e) p slots
  close_past : {slot : ℕ} → slot_count ≤ slot
      → Moves config q slots (command.Close slot) reply.NoSuchSlot q slots
  close_empty : {slot : ℕ} → FreeAt slots slot → Moves config q slots (command.Close slot) reply.SlotEmpty q slots
  closed : {slot : ℕ} (f : Registered) {p : Quiet} → HoldsAt slots slot f → Closes q f.node f.description.hash p
      → Moves config q slots (command.Close slot) (reply.Closed slot) p (slice_set slots slot None)
  listed : {entries : Vec Entry Global} → entries.items ≡ listing q
      → Moves config q slots command.List (reply.Listing entries) q slots
  not_listed : Moves config q slots command.List reply.OutOfMemory q slots

-- The machine's state after a command, which the session is quiet with again.
pub record IsMoved (old : SessionState) (q : Quiet) (c : Command) (a : Reply) (new : SessionState) : Type 0 where
  pub state : Quiet
  pub moves : Moves old.config q old.slots c a state new.slots
  pub quiet : IsQuiet new state
  pub configured : new.config ≡ old.config

-- The reply tells of no factory that was opened or closed.
abbrev pub RepliesNoChange : Reply → Type 0
RepliesNoChange (reply.Opened slot number) = ⊥
RepliesNoChange (reply.Closed slot) = ⊥
RepliesNoChange _ = Unit {0}

-- The slots hold what they held, and the table has the same descriptions, segments, tags and counts.
pub record IsUnchanged (old new : SessionState) : Type 0 where
  pub slots : new.slots ≡ old.slots
  pub services : HoldsTheSame old.table.world new.table.world

-- The session beside the machine that its table shows.
pub record QuietState : Type 0 where
  pub session : SessionState
  pub machine : Quiet

-- A command with its reply moves both, and afterwards the table shows the machine again. Nothing changes where the
-- reply tells of no factory that was opened or closed.
pub record MovesTogether (old : QuietState) (c : Command) (a : Reply) (new : QuietState) : Type 0 where
  pub goes : Applies old.session c a new.session
  pub moves : Moves old.session.config old.machine old.session.slots c a new.machine new.session.slots
  pub quiet : IsQuiet new.session new.machine
  pub unchanged : RepliesNoChange a → IsUnchanged old.session new.session

-- The machine's state after commands that were carried out in order, session and machine together, which the session is
-- quiet with again. The table's tags are exactly those of the nodes that the machine counts.
pub record AreMoved (old : SessionState) (q : Quiet) (commands : List Command) (replies : List Reply)
    (new : SessionState) : Type 0 where
  pub state : Quiet
  pub moves : CarriesOut MovesTogether
      (record { session = old; machine = q }) commands replies (record { session = new; machine = state })
  pub quiet : IsQuiet new state
  pub tags : (node : ℕ) (hash : ServiceHash)
      → IsTrue (tag_of new.table.world node hash) ↔ (1 ≤ times_opened state node hash)
  pub configured : new.config ≡ old.config

-- the machine's state after what a slot holds is closed, if it holds something
abbrev pub LeavesPlace : Quiet → Option Registered → Quiet → Type 0
LeavesPlace q None p = p ≡ q
LeavesPlace q (Some f) p = Closes q f.node f.description.hash p

-- A session's end: slot after slot its factories are closed, and the table shows what the machine
-- has then.
pub record IsFinished (q : Quiet) (slots : List (Option Registered)) (t : TableState) : Type 0 where
  pub state : Quiet
  pub moves : Run LeavesPlace q slots state
  pub shows : Shows t.world state
  pub agrees : Agrees t.world
  pub waiting : t.waiting ≡ []
