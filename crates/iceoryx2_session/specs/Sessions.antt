-- What a command makes of a session.
use Rattle.std.specs.Prelude.{◌≡◌, ◌≤◌, ℕ, Bool, List, Vec, Option, Some, None, Result, Ok, Err}
use Rattle.std.specs.Prelude.{slice_get, slice_set}
use Rattle.std.specs.declared.alloc.Global.{Global}
use Rattle.iceoryx2_description.specs.declared.config.Config.{Config}
use Rattle.iceoryx2_world.specs.declared.listing.Entry.{Entry}
use Rattle.iceoryx2_world.specs.Interference.{IsFallibleUnder}
use Rattle.iceoryx2_world.specs.Listing.{Lists}
use Rattle.iceoryx2_world.specs.Tables.{TableState, IsTableAccess}
use Rattle.iceoryx2_world.specs.World.{World}
use Rattle.iceoryx2_access.specs.Letter.{Letter}
use Rattle.iceoryx2_access.specs.Run.{Run, Joins}
use Rattle.iceoryx2_errors.specs.declared.error.CloseError.TheVariants.{NotHere}
use Rattle.iceoryx2_call_laws.specs.Tickets.{CloseAnswer, HandsNothingBack}
use Rattle.iceoryx2_access.specs.Registered.{Registered}
use Rattle.iceoryx2_rounds.specs.Answers.{map_err}
use Rattle.iceoryx2_rounds.specs.BuilderCalls.{ErrorBy}
use Rattle.iceoryx2_rounds.specs.CallWords.{Calls}
use Rattle.iceoryx2_rounds.specs.Closes.{IsCloseWord}
use Rattle.iceoryx2_builder.specs.declared.command.Call.{Call}
use Rattle.iceoryx2_builder.specs.declared.command.Command.{Command}
use Rattle.iceoryx2_builder.specs.declared.command.Command.TheVariants as command
use Rattle.iceoryx2_errors.specs.declared.refusal.Refusal.{Refusal}
use Rattle.iceoryx2_builder.specs.declared.command.Reply.{Reply}
use Rattle.iceoryx2_builder.specs.declared.command.Reply.TheVariants as reply
use Rattle.iceoryx2_session.specs.PatternCalls.{PatternCall}
use Rattle.iceoryx2_session.specs.Patterns.{builder_call}
use Rattle.iceoryx2_builder.specs.Commands.{slot_count}
use Rattle.iceoryx2_session.specs.Slots.{FreeAt, HoldsAt, TakenAt}

-- What a session has, over a storage that is seen as an S.
pub record SessionOver (S : Type 0) : Type 0 where
  pub config : Config
  pub table : S
  pub slots : List (Option Registered)

-- What a session has, over a table.
abbrev pub SessionState : Type 0
SessionState = SessionOver TableState

-- What a session has, over what its storage is seen as: the table that it shows, or the world inside.
abbrev pub shown_session : {S T : Type 0} → (S → T) → SessionOver S → SessionOver T
shown_session shown s = record { config = s.config; table = shown s.table; slots = s.slots }

-- the world of the table that a storage shows
abbrev pub shown_world : {S : Type 0} → (S → TableState) → S → World
shown_world shown s = (shown s).world

-- ---- by the steps of any storage

-- A builder call leads the storage from one state to another along a word of it, and the answer carries its error.
abbrev pub BuildsBy : {S : Type 0} (step : S → Letter → S → Type 0)
    → PatternCall → S → Result Registered Refusal → S → Type 0
BuildsBy step b s answer t =
    (own : Result Registered (ErrorBy b.open_error b.create_error b.call.way))
    × (answer ≡ map_err b.refusal_of own) × Calls step b.call s own t

-- Such a call puts the factory that it gives into a slot, and tells its number. An error leaves the slots as they are.
abbrev pub OpensBy : {S : Type 0} (step : S → Letter → S → Type 0) → PatternCall
    → S → List (Option Registered) → ℕ → Result ℕ Refusal → S → List (Option Registered) → Type 0
OpensBy step b s slots k (Ok number) t after = (f : Registered) × (number ≡ f.number)
    × BuildsBy step b s (Ok f) t × (after ≡ slice_set slots k (Some f))
OpensBy step b s slots k (Err e) t after = BuildsBy step b s (Err e) t × (after ≡ slots)

-- A factory is closed along a word of close whose answer doesn't hand it back.
abbrev pub LetsGoBy : {S : Type 0} (step : S → Letter → S → Type 0) → S → Registered → S → Type 0
LetsGoBy step s f t =
    (answer : CloseAnswer) × HandsNothingBack answer × Joins step s (λ word. IsCloseWord f word answer) t

-- The close of a factory hands it back: it isn't released.
abbrev pub HandsBackBy : {S : Type 0} (step : S → Letter → S → Type 0) → S → Registered → S → Type 0
HandsBackBy step s f t = Joins step s (λ word. IsCloseWord f word (Err (NotHere f))) t

-- A close lets the factory go, or that very factory comes back.
abbrev pub ClosesOrHandsBackBy : {S : Type 0} (step : S → Letter → S → Type 0)
    → S → Registered → Option Registered → S → Type 0
ClosesOrHandsBackBy step s f None t = LetsGoBy step s f t
ClosesOrHandsBackBy step s f (Some back) t = (back ≡ f) × HandsBackBy step s f t

-- A factory is closed along a word of close, whatever it answers.
abbrev pub ClosesFactoryBy : {S : Type 0} (step : S → Letter → S → Type 0) → S → Registered → S → Type 0
ClosesFactoryBy step s f t =
    (answer : CloseAnswer) × Joins step s (λ word. IsCloseWord f word answer) t

-- what a slot holds is closed, if it holds something
abbrev pub ClosesPlaceBy : {S : Type 0} (step : S → Letter → S → Type 0)
    → S → Option Registered → S → Type 0
ClosesPlaceBy step s None t = t ≡ s
ClosesPlaceBy step s (Some f) t = ClosesFactoryBy step s f t

abbrev pub ClosesSlotBy : {S : Type 0} (step : S → Letter → S → Type 0)
    → S → List (Option Registered) → ℕ → S → Type 0
ClosesSlotBy step s slots k t =
    (o : Option Registered) × (slice_get slots k ≡ Some o) × ClosesPlaceBy step s o t

-- Slot after slot is closed, in ascending order.
abbrev pub ClosesSlotsBy : {S : Type 0} (step : S → Letter → S → Type 0)
    → S → List (Option Registered) → S → Type 0
ClosesSlotsBy step s slots t = Run (ClosesPlaceBy step) s slots t

-- what a slot holds is closed, and that is Ok
abbrev pub IsClosedPlaceBy : {S : Type 0} (step : S → Letter → S → Type 0)
    → S → Option Registered → S → Type 0
IsClosedPlaceBy step s None t = t ≡ s
IsClosedPlaceBy step s (Some f) t = Joins step s (λ word. IsCloseWord f word (Ok tt)) t

-- Slot after slot is closed, in ascending order, and no factory comes back.
abbrev pub AreClosedBy : {S : Type 0} (step : S → Letter → S → Type 0)
    → S → List (Option Registered) → S → Type 0
AreClosedBy step s slots t = Run (IsClosedPlaceBy step) s slots t

-- A command leads from one state to another, with this reply. The slot is tested before any access,
-- and the other slots keep what they hold. A factory that its close hands back stays in its slot.
-- What is listed is in the storage's world.
pub data AppliesBy {S : Type 0} (step : S → Letter → S → Type 0) (world : S → World) (old : SessionOver S)
    : Command → Reply → SessionOver S → Type 0 where
  call_past : {call : Call} → slot_count ≤ call.slot
      → AppliesBy step world old (command.Call call) reply.NoSuchSlot old
  call_taken : {call : Call} → TakenAt old.slots call.slot
      → AppliesBy step world old (command.Call call) reply.SlotInUse old
  called : {call : Call} (f : Registered) {t : S} → FreeAt old.slots call.slot
      → BuildsBy step (builder_call old.config call) old.table (Ok f) t
      → AppliesBy step world old (command.Call call) (reply.Opened call.slot f.number)
      (record old { table = t; slots = slice_set old.slots call.slot (Some f) })
  refused : {call : Call} {e : Refusal} {t : S} → FreeAt old.slots call.slot
      → BuildsBy step (builder_call old.config call) old.table (Err e) t
      → AppliesBy step world old (command.Call call) (reply.Refused e) (record old { table = t })
  close_past : {slot : ℕ} → slot_count ≤ slot → AppliesBy step world old (command.Close slot) reply.NoSuchSlot old
  close_empty : {slot : ℕ} → FreeAt old.slots slot
      → AppliesBy step world old (command.Close slot) reply.SlotEmpty old
  closed : {slot : ℕ} (f : Registered) {t : S} → HoldsAt old.slots slot f → LetsGoBy step old.table f t
      → AppliesBy step world old (command.Close slot) (reply.Closed slot)
      (record old { table = t; slots = slice_set old.slots slot None })
  not_closed : {slot : ℕ} (f : Registered) {t : S} → HoldsAt old.slots slot f → HandsBackBy step old.table f t
      → AppliesBy step world old (command.Close slot) (reply.NotClosed slot) (record old { table = t })
  listed : {entries : Vec Entry Global} → Lists (world old.table) entries.items
      → AppliesBy step world old command.List (reply.Listing entries) old
  not_listed : AppliesBy step world old command.List reply.OutOfMemory old

-- ---- over a table

abbrev pub Builds : PatternCall → TableState → Result Registered Refusal → TableState → Type 0
Builds = BuildsBy IsTableAccess

abbrev pub ClosesSlots : TableState → List (Option Registered) → TableState → Type 0
ClosesSlots = ClosesSlotsBy IsTableAccess

abbrev pub AreClosed : TableState → List (Option Registered) → TableState → Type 0
AreClosed = AreClosedBy IsTableAccess

abbrev pub Applies : SessionState → Command → Reply → SessionState → Type 0
Applies = AppliesBy IsTableAccess (λ table. table.world)

-- ---- over a world, whatever others do before an access of it, and whichever of these is refused. `own` tells which
-- nodes are one's own.

abbrev pub ClosesSlotsInWorld : (own : ℕ → Bool) → World → List (Option Registered) → World → Type 0
ClosesSlotsInWorld own = ClosesSlotsBy (IsFallibleUnder own)

abbrev pub AppliesInWorld : (own : ℕ → Bool) → SessionOver World → Command → Reply → SessionOver World → Type 0
AppliesInWorld own = AppliesBy (IsFallibleUnder own) (λ w. w)
