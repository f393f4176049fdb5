-- What the contracts of open or create, and of one round of it, cite.
use Rattle.std.specs.Prelude.{false, List, Result, Option, Some, None}
use Rattle.iceoryx2_access.specs.Registered.{Registered}
use Rattle.iceoryx2_access.specs.Letter.{Letter}
use Rattle.iceoryx2_attribute.specs.Requirements.{Requirements}
use Rattle.iceoryx2_rounds.specs.PatternRules.{PatternRules}
use Rattle.iceoryx2_rounds.specs.declared.caller.Caller.{Caller}
use Rattle.iceoryx2_rounds.specs.Retried.{Retried}
use Rattle.iceoryx2_rounds.specs.BuilderCalls.{BuilderCall, ToOpenOrCreate}
use Rattle.iceoryx2_rounds.specs.OpenOrCreates.{IsLastAttempt, IsRetriedAttempt}
use Rattle.iceoryx2_rounds.specs.declared.open_or_create.OpenOrCreateRefusal.{OpenOrCreateRefusal}

-- the call of this caller, of a pattern of such meanings that asks this: a create defines the required pairs
abbrev pub called_by : {D E C : Type 0} → (D → PatternRules E C) → (D → D) → Retried E C → D → Requirements → Caller
    → BuilderCall D E C
called_by meaning adjusted retried asked required caller = record {
  way = ToOpenOrCreate;
  caller = caller;
  meaning = meaning;
  adjusted = adjusted;
  retried = retried;
  asked = asked;
  defined = required.pairs;
  required = required;
  prepares = false;
}

-- A round may ask for another one.
abbrev pub IsAttempt : {D E C : Type 0} → BuilderCall D E C → List Letter
    → Option (Result Registered (OpenOrCreateRefusal E C)) → D → Type 0
IsAttempt c word None next = IsRetriedAttempt c word next
IsAttempt c word (Some answer) next = IsLastAttempt c word answer
