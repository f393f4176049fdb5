-- The accesses of a command, as a storage goes along them by its own steps.
use Rattle.std.specs.Prelude.{◌≡◌, List, [], Option, Result, Ok, Err}
use Rattle.iceoryx2_access.specs.Letter.{Letter}
use Rattle.iceoryx2_access.specs.Registered.{Registered}
use Rattle.iceoryx2_access.specs.Run.{Run}
use Rattle.iceoryx2_journal.specs.Journal.{JournalState}
use Rattle.iceoryx2_journal.specs.Taking.{is_own}
use Rattle.iceoryx2_world.specs.Interference.{Rely}
use Rattle.iceoryx2_world.specs.World.{World}
use Rattle.iceoryx2_rounds.specs.Answers.{map_err}
use Rattle.iceoryx2_description.specs.declared.config.Config.{Config}
use Rattle.iceoryx2_errors.specs.declared.error.CloseError.TheVariants.{NotHere}
use Rattle.iceoryx2_call_laws.specs.Tickets.{CloseAnswer, HandsNothingBack}
use Rattle.iceoryx2_rounds.specs.BuilderCalls.{ErrorBy}
use Rattle.iceoryx2_rounds.specs.CallWords.{IsWordOf}
use Rattle.iceoryx2_rounds.specs.Closes.{IsCloseWord}
use Rattle.iceoryx2_builder.specs.declared.command.Command.{Command}
use Rattle.iceoryx2_builder.specs.declared.command.Command.TheVariants as command
use Rattle.iceoryx2_errors.specs.declared.refusal.Refusal.{Refusal}
use Rattle.iceoryx2_builder.specs.declared.command.Reply.{Reply}
use Rattle.iceoryx2_builder.specs.declared.command.Reply.TheVariants as reply
use Rattle.iceoryx2_session.specs.PatternCalls.{PatternCall}
use Rattle.iceoryx2_session.specs.Patterns.{builder_call}
use Rattle.iceoryx2_session.specs.Sessions.{SessionOver, AppliesBy, ClosesSlotsBy}
use Rattle.iceoryx2_session.specs.Slots.{HoldsAt}
use Rattle.iceoryx2_testing.specs.Trace.{TracedState}

-- a word of this builder call, whose answer is carried by that one
abbrev pub IsBuilderWord : PatternCall → Result Registered Refusal → List Letter → Type 0
IsBuilderWord b answer word =
    (own : Result Registered (ErrorBy b.open_error b.create_error b.call.way))
    × (answer ≡ map_err b.refusal_of own) × IsWordOf b.call word own

-- The word of a command with its reply: that of the builder call, that of the close of what the slot holds, with or
-- without its being handed back, and with any other reply no access.
abbrev pub IsCommandWord : Config → List (Option Registered) → Command → Reply → List Letter → Type 0
IsCommandWord config slots (command.Call call) (reply.Opened slot number) word =
    (f : Registered) × (number ≡ f.number) × IsBuilderWord (builder_call config call) (Ok f) word
IsCommandWord config slots (command.Call call) (reply.Refused e) word =
    IsBuilderWord (builder_call config call) (Err e) word
IsCommandWord config slots (command.Close slot) (reply.Closed same) word =
    (f : Registered) × HoldsAt slots slot f
    × ((answer : CloseAnswer) × HandsNothingBack answer × IsCloseWord f word answer)
IsCommandWord config slots (command.Close slot) (reply.NotClosed same) word =
    (f : Registered) × HoldsAt slots slot f × IsCloseWord f word (Err (NotHere f))
IsCommandWord config slots c a word = word ≡ []

-- A command went along its word: by these steps the storage came from what it was to what it is.
pub record AppliesAlong {S : Type 0} (step : S → Letter → S → Type 0) (old : SessionOver S) (c : Command) (a : Reply)
    (new : SessionOver S) : Type 0 where
  pub word : List Letter
  pub is_word : IsCommandWord old.config old.slots c a word
  pub run : Run step old.table word new.table

-- A call has begun or ended: the storage changes so, and all else stays.
pub record SpansSession {S : Type 0} (spans : S → S → Type 0) (old new : SessionOver S) : Type 0 where
  pub same : new ≡ record old { table = new.table }
  pub changes : spans old.table new.table

-- what is kept of the accesses stays where the storage inside changes so
abbrev pub SpansTraced : {S : Type 0} → (spans : S → S → Type 0) → TracedState S → TracedState S → Type 0
SpansTraced spans old new = (new ≡ record old { inner = new.inner }) × spans old.inner new.inner

-- Others have done something, and the own nodes stay, with all that they rely on.
abbrev pub ShowsOthers : {L : Type 0} → JournalState L → JournalState L → Type 0
ShowsOthers old new = Rely (is_own old.nodes) old.world new.world × (is_own new.nodes ≡ is_own old.nodes)

-- A command goes along a word of it between the begin and the end of a call.
pub record AppliesHeld {S : Type 0} (spans : S → S → Type 0) (step : S → Letter → S → Type 0) (world : S → World)
    (old : SessionOver S) (c : Command) (a : Reply) (new : SessionOver S) : Type 0 where
  pub first : SessionOver S
  pub last : SessionOver S
  pub begins : SpansSession spans old first
  pub applies : AppliesBy step world first c a last
  pub ends : SpansSession spans last new

-- The factories of these slots are closed in ascending order between the begin and the end of a call.
pub record ClosesHeld {S : Type 0} (spans : S → S → Type 0) (step : S → Letter → S → Type 0) (old : S)
    (slots : List (Option Registered)) (new : S) : Type 0 where
  pub first : S
  pub last : S
  pub begins : spans old first
  pub closes : ClosesSlotsBy step first slots last
  pub ends : spans last new
