-- What a call of a builder of events is.
use Rattle.std.specs.Prelude.{ℕ, List, Result, false}
use Rattle.iceoryx2_attribute.specs.Attributes.{Pair}
use Rattle.iceoryx2_attribute.specs.Requirements.{Requirements}
use Rattle.iceoryx2_description.specs.declared.description.ServiceHash.{ServiceHash}
use Rattle.iceoryx2_description.specs.declared.time.ClockFault.{ClockFault}
use Rattle.iceoryx2_description.specs.Span.{Span}
use Rattle.iceoryx2_errors.specs.declared.error.events.EventOpenError.{EventOpenError}
use Rattle.iceoryx2_errors.specs.declared.error.events.EventCreateError.{EventCreateError}
use Rattle.iceoryx2_rounds.specs.declared.caller.Caller.{Caller}
use Rattle.iceoryx2_rounds.specs.BuilderCalls.{BuilderCall, Way}
use Rattle.iceoryx2_rounds.specs.Facts.{caller_of}
use Rattle.iceoryx2_event_builder.specs.declared.event.demand.EventDemand.{EventDemand}
use Rattle.iceoryx2_event_builder.specs.Event.{event_adjusted, event_meaning, event_retried}
use Rattle.iceoryx2_event_builder.specs.Builder.{EventBuilderState, prefix_of_events}

-- Who calls: the service's hash is made by this hasher.
abbrev pub event_caller : (hash_of : ℕ → List ℕ → ServiceHash) → EventBuilderState → Result Span ClockFault → Caller
event_caller hash_of b now = caller_of hash_of prefix_of_events (record { node = b.node; name = b.name }) now

-- A create defines the pairs, and an open requires pairs and keys.
abbrev pub event_call : (hash_of : ℕ → List ℕ → ServiceHash) → EventBuilderState → Way → List Pair → Requirements
    → Result Span ClockFault → BuilderCall EventDemand EventOpenError EventCreateError
event_call hash_of b way defined required now = record {
  way = way;
  caller = event_caller hash_of b now;
  meaning = event_meaning;
  adjusted = event_adjusted;
  retried = event_retried;
  asked = b.demand;
  defined = defined;
  required = required;
  prepares = false;
}
