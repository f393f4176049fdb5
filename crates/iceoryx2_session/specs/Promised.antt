-- What a session's builder calls come to: each is one call, whichever of a builder's three it is.
use Rattle.std.specs.Prelude.{◌≡◌, ◌<◌, ℕ, Bool, true, List, Option, Result, Ok, Err}
use Rattle.iceoryx2_access.specs.Registered.{Registered}
use Rattle.iceoryx2_access.specs.Letter.{Letter}
use Rattle.iceoryx2_access.specs.Run.{Run}
use Rattle.iceoryx2_world.specs.Agreement.{Agrees}
use Rattle.iceoryx2_world.specs.Interference.{everyone, IsFallibleUnder}
use Rattle.iceoryx2_world.specs.Tables.{IsTableAccess}
use Rattle.iceoryx2_world.specs.World.{World}
use Rattle.iceoryx2_rounds.specs.Adjusting.{OnlyRaises}
use Rattle.iceoryx2_rounds.specs.BuilderCalls.{ErrorBy}
use Rattle.iceoryx2_rounds.specs.CallWords.{IsWordOf}
use Rattle.iceoryx2_call_laws.specs.Headline.{IsAsPromised}
use Rattle.iceoryx2_builder.specs.declared.command.Command.{Command}
use Rattle.iceoryx2_builder.specs.declared.command.Command.TheVariants as command
use Rattle.iceoryx2_builder.specs.declared.command.Reply.{Reply}
use Rattle.iceoryx2_builder.specs.declared.command.Reply.TheVariants as reply
use Rattle.iceoryx2_builder.specs.Commands.{slot_count}
use Rattle.iceoryx2_session.specs.PatternCalls.{PatternCall}
use Rattle.iceoryx2_session.specs.Patterns.{builder_call}
use Rattle.iceoryx2_session.specs.Slots.{FreeAt, HoldsAt}
use Rattle.iceoryx2_session.specs.Sessions.{SessionOver, SessionState}

-- what a builder call answers, by its own errors
abbrev pub AnswerTo : PatternCall → Type 0
AnswerTo b = Result Registered (ErrorBy b.open_error b.create_error b.call.way)

-- Where a call answers Ok the slot holds that factory, and the reply tells its number; where it is refused the reply
-- is that refusal, and the slot is free.
abbrev pub IsRepliedBy : (b : PatternCall) → AnswerTo b → (slot : ℕ) → Reply → List (Option Registered) → Type 0
IsRepliedBy b (Ok f) slot answer slots = (answer ≡ reply.Opened slot f.number) × HoldsAt slots slot f
IsRepliedBy b (Err e) slot answer slots = (answer ≡ reply.Refused (b.refusal_of e)) × FreeAt slots slot

module _ {S : Type 0} (step : S → Letter → S → Type 0) (world : S → World) (own : ℕ → Bool) where
  -- A builder call goes along a word of it, and that of an own node is as every call is; its create only raises
  -- minima. The answer of which this holds is the one that the reply tells, and its factory the one that the slot
  -- holds. `own` tells which nodes are one's own.
  pub record IsPromisedBy (b : PatternCall) (slot : ℕ) (s : S) (answer : Reply) (new : SessionOver S)
      : Type 0 where
    pub answered : AnswerTo b
    pub replied : IsRepliedBy b answered slot answer new.slots
    pub word : List Letter
    pub is_word : IsWordOf b.call word answered
    pub run : Run step s word new.table
    pub only_raises : OnlyRaises b.call.meaning b.call.adjusted
    pub promised : own b.call.caller.node ≡ true → Agrees (world s)
        → IsAsPromised step world b.call own s word answered new.table

  -- So is the call of a free slot.
  abbrev pub CallsAsPromisedBy : SessionOver S → Command → Reply → SessionOver S → Type 0
  CallsAsPromisedBy old (command.Call call) answer new = call.slot < slot_count → FreeAt old.slots call.slot
      → IsPromisedBy (builder_call old.config call) call.slot old.table answer new
  CallsAsPromisedBy old (command.Close slot) answer new = Unit {0}
  CallsAsPromisedBy old command.List answer new = Unit {0}

-- over a table, at which every node is one's own
abbrev pub CallsAsPromised : SessionState → Command → Reply → SessionState → Type 0
CallsAsPromised = CallsAsPromisedBy IsTableAccess (λ table. table.world) everyone

-- over a world, whatever others do before an access of it, and whichever of these is refused
abbrev pub CallsAsPromisedInWorld : (own : ℕ → Bool) → SessionOver World → Command → Reply → SessionOver World
    → Type 0
CallsAsPromisedInWorld own = CallsAsPromisedBy (IsFallibleUnder own) (λ w. w) own
