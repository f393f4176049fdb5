-- Builder calls for services of events.
use Rattle.std.specs.Prelude.{Result}
use Rattle.iceoryx2_attribute.specs.Requirements.{Requirements}
use Rattle.iceoryx2_description.specs.declared.time.ClockFault.{ClockFault}
use Rattle.iceoryx2_description.specs.Span.{Span}
use Rattle.iceoryx2_errors.specs.declared.error.events.EventOpenError.{EventOpenError}
use Rattle.iceoryx2_errors.specs.declared.error.events.EventCreateError.{EventCreateError}
use Rattle.iceoryx2_errors.specs.declared.error.events.EventOpenOrCreateError.TheVariants as either
use Rattle.iceoryx2_rounds.specs.BuilderCalls.{Way}
use Rattle.iceoryx2_rounds.specs.declared.open_or_create.OpenOrCreateRefusal.{OpenOrCreateRefusal}
use Rattle.iceoryx2_rounds.specs.declared.open_or_create.OpenOrCreateRefusal.TheVariants as rounds
use Rattle.iceoryx2_event_builder.specs.declared.event.demand.EventDemand.{EventDemand}
use Rattle.iceoryx2_event_builder.specs.EventCalls.{event_call}
use Rattle.iceoryx2_event_builder.specs.Builder.{EventBuilderState}
use Rattle.iceoryx2_errors.specs.declared.refusal.Refusal.{Refusal}
use Rattle.iceoryx2_errors.specs.declared.refusal.Refusal.TheVariants as refusal
use Rattle.iceoryx2_session.specs.PatternCalls.{PatternCall, hash_for, refusal_by}

-- how the refusals of the rounds are carried
abbrev pub event_rounds : OpenOrCreateRefusal EventOpenError EventCreateError → Refusal
event_rounds (rounds.Open error) = refusal.EventOpenOrCreate (either.EventOpenError error)
event_rounds (rounds.Create error) = refusal.EventOpenOrCreate (either.EventCreateError error)
event_rounds rounds.SystemInFlux = refusal.EventOpenOrCreate either.SystemInFlux

-- Of a command's attributes a create defines the pairs, and an open requires all.
abbrev pub event_pattern_call : EventBuilderState → Way → Requirements → Result Span ClockFault → PatternCall
event_pattern_call b way attributes now = record {
  asks = EventDemand;
  open_error = EventOpenError;
  create_error = EventCreateError;
  call = event_call hash_for b way attributes.pairs attributes now;
  refusal_of = refusal_by refusal.EventCreate refusal.EventOpen event_rounds way;
}
