-- Builder calls for services of request-response.
use Rattle.iceoryx2_attribute.specs.Requirements.{Requirements}
use Rattle.iceoryx2_errors.specs.declared.error.request_response.RequestResponseOpenError.{RequestResponseOpenError}
use Rattle.iceoryx2_errors.specs.declared.error.request_response.RequestResponseCreateError.{RequestResponseCreateError}
use Rattle.iceoryx2_errors.specs.declared.error.request_response.RequestResponseOpenOrCreateError.TheVariants as either
use Rattle.iceoryx2_rounds.specs.BuilderCalls.{Way}
use Rattle.iceoryx2_rounds.specs.declared.open_or_create.OpenOrCreateRefusal.{OpenOrCreateRefusal}
use Rattle.iceoryx2_rounds.specs.declared.open_or_create.OpenOrCreateRefusal.TheVariants as rounds
use Rattle.iceoryx2_request_response_builder.specs.declared.request_response.demand.PreparedDemand.{PreparedDemand}
use Rattle.iceoryx2_request_response_builder.specs.RequestResponseCalls.{request_response_call}
use Rattle.iceoryx2_request_response_builder.specs.Builder.{RequestResponseBuilderState, Messages, messages_for}
use Rattle.iceoryx2_errors.specs.declared.refusal.Refusal.{Refusal}
use Rattle.iceoryx2_errors.specs.declared.refusal.Refusal.TheVariants as refusal
use Rattle.iceoryx2_session.specs.Markers.{payload_marker, user_header_marker}
use Rattle.iceoryx2_session.specs.PatternCalls.{PatternCall, hash_for, refusal_by}

-- the request and the response of this builder, whose types are those that setters named
abbrev pub named_messages : RequestResponseBuilderState → Messages
named_messages b = messages_for payload_marker user_header_marker payload_marker user_header_marker b.types

-- how the refusals of the rounds are carried
abbrev pub request_response_rounds
    : OpenOrCreateRefusal RequestResponseOpenError RequestResponseCreateError → Refusal
request_response_rounds (rounds.Open error) =
    refusal.RequestResponseOpenOrCreate (either.RequestResponseOpenError error)
request_response_rounds (rounds.Create error) =
    refusal.RequestResponseOpenOrCreate (either.RequestResponseCreateError error)
request_response_rounds rounds.SystemInFlux = refusal.RequestResponseOpenOrCreate either.SystemInFlux

-- Of a command's attributes a create defines the pairs, and an open requires all.
abbrev pub request_response_pattern_call : RequestResponseBuilderState → Way → Requirements → PatternCall
request_response_pattern_call b way attributes = record {
  asks = PreparedDemand;
  open_error = RequestResponseOpenError;
  create_error = RequestResponseCreateError;
  call = request_response_call hash_for b (named_messages b) way attributes.pairs attributes;
  refusal_of = refusal_by refusal.RequestResponseCreate refusal.RequestResponseOpen request_response_rounds way;
}
