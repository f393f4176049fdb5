-- That what a call has given is opened again, over a table that nobody else uses.
use Rattle.std.specs.Prelude.{◌≡◌, ℕ, List, Some, Result, IfErr}
use Rattle.iceoryx2_attribute.specs.Requirements.{Requirements, AreMetBy}
use Rattle.iceoryx2_description.specs.declared.description.ServiceHash.{ServiceHash}
use Rattle.iceoryx2_access.specs.Letter.{Letter}
use Rattle.iceoryx2_access.specs.Registered.{Registered}
use Rattle.iceoryx2_access.specs.Run.{Run}
use Rattle.iceoryx2_rounds.specs.declared.pattern.OpenRefusal.TheVariants.{OutOfMemory}
use Rattle.iceoryx2_rounds.specs.PatternRules.{PatternRules}
use Rattle.iceoryx2_rounds.specs.OwnAttributes.{requiring}
use Rattle.iceoryx2_rounds.specs.Adjusting.{Accepts}
use Rattle.iceoryx2_rounds.specs.BuilderCalls.{BuilderCall, ToOpen, opening}
use Rattle.iceoryx2_rounds.specs.CallWords.{IsWordBy}
use Rattle.iceoryx2_world.specs.World.{World}
use Rattle.iceoryx2_world.specs.Access.{IsOwnPart}
use Rattle.iceoryx2_world.specs.Agreement.{Agrees}
use Rattle.iceoryx2_world.specs.Standing.{Stands}
use Rattle.iceoryx2_call_laws.specs.AnyCalls.{MayCarryBy}
use Rattle.iceoryx2_call_laws.specs.Quiet.{Quiet, QuietService, Shows, service_at}
use Rattle.iceoryx2_call_laws.specs.QuietCalls.{HasPlace, HasNumber}
use Rattle.iceoryx2_call_laws.specs.QuietPrepared.{OpensPrepared}

-- An open of the call's service with its settings and types, by this node and with these required attributes.
abbrev pub opening_again : {D E C : Type 0} → BuilderCall D E C → ℕ → Requirements → BuilderCall D E C
opening_again c node required =
    record c { way = ToOpen; caller = record c.caller { node = node }; required = required }

-- A factory of the call's service stands, whosever it is, that carries what the call may give.
pub record StandsAsAsked {D E C : Type 0} (c : BuilderCall D E C) (w : World) (f : Registered) : Type 0 where
  pub stands : Stands w f
  pub hash : f.description.hash ≡ c.caller.hash
  pub carries : MayCarryBy c c.way f.description

-- The service takes this node, and a number is left.
pub record HasRoomFor (q : Quiet) (node : ℕ) (hash : ServiceHash) : Type 0 where
  pub place : (x : QuietService) → service_at q hash ≡ Some x → HasPlace x node
  pub number : HasNumber q

-- The service stands, the open takes it, and a place and a number are left.
pub record CanOpen {E C : Type 0} (m : PatternRules E C) (q : Quiet) (node : ℕ) (hash : ServiceHash) : Type 0 where
  pub service : QuietService
  pub there : service_at q hash ≡ Some service
  pub accepted : Accepts m service.description
  pub place : HasPlace service node
  pub number : HasNumber q

-- The open is Ok or out of memory.
abbrev pub IsOkOrOutOfMemory : {E C : Type 0} → PatternRules E C → Result Registered E → Type 0
IsOkOrOutOfMemory m answer = IfErr answer (λ e. e ≡ m.open_refusal OutOfMemory)

-- While a factory stands that the call gave, or another one of the same description, with a place and a number left, an
-- open of the machine with the call's settings is Ok or out of memory, whichever node calls and whatever it requires of
-- attributes that those of the description meet.
abbrev pub OpensOwnSettings : {D E C : Type 0} → BuilderCall D E C → Type 0
OpensOwnSettings {E = E} c = (required : Requirements) (node : ℕ) (q p : Quiet) (f : Registered) (w : World)
    (answer : Result Registered E)
    → StandsAsAsked c w f → Shows w q → AreMetBy required f.description.attributes
    → HasRoomFor q node c.caller.hash
    → OpensPrepared (requiring required (c.meaning c.asked)) q node c.caller.hash answer p
    → IsOkOrOutOfMemory (opening c) answer

-- While a factory stands that the call gave, or another one of the same description, with a place and a number left,
-- such an open is Ok or out of memory, whichever node calls and whatever it requires of attributes that those of the
-- description meet, as they do where it requires none.
abbrev pub OpensAgain : {D E C : Type 0} → BuilderCall D E C → Type 0
OpensAgain {E = E} c = (required : Requirements) (node : ℕ) (f : Registered) (q : Quiet) (w v : World)
    (word : List Letter) (answer : Result Registered E)
    → StandsAsAsked c w f → AreMetBy required f.description.attributes
    → Shows w q → Agrees w → HasRoomFor q node c.caller.hash
    → IsWordBy (opening_again c node required) ToOpen word answer → Run IsOwnPart w word v
    → IsOkOrOutOfMemory (opening c) answer
