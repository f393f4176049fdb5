-- How a call is made, held and given back.
use Rattle.std.specs.Prelude.{◌≡◌, ℕ, Bool, true, false, List, ◌++◌, Option, Result, Ok, Err, OnOk, codes, decimal}
use Rattle.std.specs.List.{flat_map}
use Rattle.iceoryx2_access.specs.Letter.{Letter}
use Rattle.iceoryx2_builder.specs.declared.command.Call.{Call}
use Rattle.iceoryx2_builder.specs.declared.command.Command.TheVariants as command
use Rattle.iceoryx2_errors.specs.declared.refusal.Refusal.{Refusal}
use Rattle.iceoryx2_builder.specs.declared.command.Reply.{Reply}
use Rattle.iceoryx2_builder.specs.declared.command.Reply.TheVariants as reply
use Rattle.iceoryx2_monitoring.specs.declared.state.NodeStatus.{NodeStatus}
use Rattle.iceoryx2_session.specs.CommandWords.{AppliesHeld, SpansSession}
use Rattle.iceoryx2_session.specs.Sessions.{SessionOver}
use Rattle.iceoryx2_world.specs.World.{World}
use Rattle.negotiate_lines.specs.Escapes.{escaped}
use Rattle.wulameron_arguments.specs.declared.asked.Form.TheVariants as form
use Rattle.wulameron_arguments.specs.declared.asked.Hold.{Hold}
use Rattle.wulameron_arguments.specs.declared.asked.Shown.{Shown}
use Rattle.wulameron_serve.specs.Shared.{GivesBack}
use Rattle.wulameron_serve.specs.Words.{word_of}
use Rattle.wulameron_serve.specs.declared.holding.Factory.{Factory}
use Rattle.wulameron_serve.specs.declared.holding.HoldError.{HoldError}
use Rattle.wulameron_serve.specs.declared.holding.HoldError.TheVariants as hold
use Rattle.wulameron_serve.specs.declared.holding.WaitError.{WaitError}
use Rattle.wulameron_serve.specs.declared.holding.WaitError.TheVariants as wait
use Rattle.wulameron_view.specs.declared.looking.LookError.{LookError}
use Rattle.wulameron_arguments.specs.declared.asked.Wanted.TheVariants as wanted
use Rattle.wulameron_view.specs.Looking.{IsShown, IsUnshown, Prints}

-- a call's line, which is escaped: its words in their order, with the node and the slot 0 before the name
abbrev pub call_line : (node : ℕ) → Hold → List ℕ
call_line node h =
    (h.pattern.now ++ codes " " ++ h.how.now ++ codes " " ++ decimal node ++ codes " 0 ") ++ word_of h.name.now
    ++ flat_map (λ term. codes " " ++ word_of term.now) h.terms.items

-- The reply gave a factory in this slot, of the service of this number; or it is why there is none.
abbrev pub IsFactoryOf : Reply → Result Factory HoldError → Type 0
IsFactoryOf answer (Ok made) = answer ≡ reply.Opened made.slot made.number
IsFactoryOf answer (Err (hold.Refused r)) = answer ≡ reply.Refused r
IsFactoryOf answer (Err hold.NotMade) = Unit {0}
IsFactoryOf answer (Err (hold.Unshown why)) = ⊥
IsFactoryOf answer (Err (hold.Reading f)) = ⊥
IsFactoryOf answer (Err hold.Lost) = ⊥
IsFactoryOf answer (Err hold.NotClosed) = ⊥

-- whether the factory was released
abbrev pub end_of_release : (closed : Reply) → Result (Unit {0}) HoldError
end_of_release (reply.Closed slot) = Ok tt
end_of_release _ = Err hold.NotClosed

-- the first that went wrong of printing, waiting and closing
abbrev pub end_of_hold : (shown : Result (Unit {0}) LookError) → (waited : Result (Unit {0}) WaitError)
    → (closed : Reply) → Result (Unit {0}) HoldError
end_of_hold (Err why) waited closed = Err (hold.Unshown why)
end_of_hold (Ok x) (Err (wait.Reading f)) closed = Err (hold.Reading f)
end_of_hold (Ok x) (Err wait.Lost) closed = Err hold.Lost
end_of_hold (Ok x) (Ok y) closed = end_of_release closed

-- 0, 1 where the call is refused, and else 3
abbrev pub hold_status : Result (Unit {0}) HoldError → ℕ
hold_status (Ok x) = 0
hold_status (Err (hold.Refused r)) = 1
hold_status (Err other) = 3

-- 3 where something of the node stays at last. A factory that wasn't closed at first is given back else.
abbrev pub end_status : Result (Unit {0}) HoldError → (is_settled : Bool) → ℕ
end_status held false = 3
end_status (Err hold.NotClosed) true = 0
end_status held true = hold_status held

-- text for people, without colours
abbrev pub plain : Shown
plain = record { form = form.Text; is_coloured = false }

-- what is told of a call's service
abbrev pub told_of : Hold → (what : List ℕ) → List ℕ
told_of h what = h.pattern.now ++ (codes " " ++ (escaped h.name.now ++ (codes " " ++ what)))

-- While a hold waits, it shows what others did, again and again. Where the log's session had ended, it goes on in
-- another one.
pub data Wakes {S : Type 0} (settles shows : S → S → Type 0) (old : SessionOver S) : SessionOver S → Type 0 where
  asleep : Wakes settles shows old old
  looks : {mid new : SessionOver S} → Wakes settles shows old mid → SpansSession shows mid new
      → Wakes settles shows old new
  goes_on : {mid new : SessionOver S} → Wakes settles shows old mid → GivesBack settles mid new
      → Wakes settles shows old new

-- A hold that has waited holds what it held, or it tells that it doesn't.
pub record Waits {S A : Type 0} (settles shows : S → S → Type 0) (old : SessionOver S) (waited : Result A WaitError)
    (new : SessionOver S) : Type 0 where
  pub wakes : Wakes settles shows old new
  pub holds : OnOk waited (new.slots ≡ old.slots)

module _ {S : Type 0} (settles shows spans : S → S → Type 0) (step : S → Letter → S → Type 0) (world : S → World)
    (states : List NodeStatus) where
  -- What was agreed of the service of this number is printed, as the world is after the call. Then, whatever came
  -- before, the slot is closed.
  pub record HoldsMade (slot number : ℕ) (old new : SessionOver S) (result : Result (Unit {0}) HoldError)
      (before after : Option (List ℕ)) : Type 0 where
    pub shown : Result (Unit {0}) LookError
    pub prints : Prints (IsShown plain states (world old.table) (wanted.Numbered number))
        (IsUnshown (world old.table) (wanted.Numbered number)) shown before after
    pub waited : Result (Unit {0}) WaitError
    pub last : SessionOver S
    pub waits : Waits settles shows old waited last
    pub closed : Reply
    pub closes : AppliesHeld spans step world last (command.Close slot) closed new
    pub ends : result ≡ end_of_hold shown waited closed

  -- A call is made, and its factory held and given back; or there is none, and nothing is written.
  pub data Holds (call : Call) (old new : SessionOver S) (result : Result (Unit {0}) HoldError)
      (before after : Option (List ℕ)) : Type 0 where
    held : (slot number : ℕ) (mid : SessionOver S)
        → AppliesHeld spans step world old (command.Call call) (reply.Opened slot number) mid
        → HoldsMade slot number mid new result before after → Holds call old new result before after
    refused : (r : Refusal) → AppliesHeld spans step world old (command.Call call) (reply.Refused r) new
        → result ≡ Err (hold.Refused r) → after ≡ before → Holds call old new result before after
    not_made : (answer : Reply) → AppliesHeld spans step world old (command.Call call) answer new
        → result ≡ Err hold.NotMade → after ≡ before → Holds call old new result before after
