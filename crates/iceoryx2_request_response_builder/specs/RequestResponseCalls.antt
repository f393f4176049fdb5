-- What a call of a builder of request-response is.
use Rattle.std.specs.Prelude.{ℕ, List, Ok, true}
use Rattle.iceoryx2_attribute.specs.Attributes.{Pair}
use Rattle.iceoryx2_attribute.specs.Requirements.{Requirements}
use Rattle.iceoryx2_description.specs.declared.description.ServiceHash.{ServiceHash}
use Rattle.iceoryx2_description.specs.Span.{zero_span}
use Rattle.iceoryx2_errors.specs.declared.error.request_response.RequestResponseOpenError.{RequestResponseOpenError}
use Rattle.iceoryx2_errors.specs.declared.error.request_response.RequestResponseCreateError.{RequestResponseCreateError}
use Rattle.iceoryx2_rounds.specs.declared.caller.Caller.{Caller}
use Rattle.iceoryx2_rounds.specs.BuilderCalls.{BuilderCall, Way}
use Rattle.iceoryx2_rounds.specs.Facts.{caller_of}
use Rattle.iceoryx2_request_response_builder.specs.declared.request_response.demand.PreparedDemand.{PreparedDemand}
use Rattle.iceoryx2_request_response_builder.specs.RequestResponse.{prepared_adjusted, prepared_meaning}
use Rattle.iceoryx2_request_response_builder.specs.RequestResponse.{request_response_retried}
use Rattle.iceoryx2_request_response_builder.specs.Builder.{RequestResponseBuilderState, Messages, asked_with}
use Rattle.iceoryx2_request_response_builder.specs.Builder.{prefix_of_request_response}

-- Who calls: the service's hash is made by this hasher. It doesn't ask the clock: its time is zero.
abbrev pub request_response_caller : (hash_of : ℕ → List ℕ → ServiceHash) → RequestResponseBuilderState → Caller
request_response_caller hash_of b =
    caller_of hash_of prefix_of_request_response (record { node = b.node; name = b.name }) (Ok zero_span)

-- Its requests and responses are of these types. A create defines the pairs, and an open requires pairs and keys.
abbrev pub request_response_call : (hash_of : ℕ → List ℕ → ServiceHash) → RequestResponseBuilderState → Messages → Way
    → List Pair → Requirements
    → BuilderCall PreparedDemand RequestResponseOpenError RequestResponseCreateError
request_response_call hash_of b messages way defined required = record {
  way = way;
  caller = request_response_caller hash_of b;
  meaning = prepared_meaning;
  adjusted = prepared_adjusted;
  retried = request_response_retried;
  asked = asked_with b.demand messages;
  defined = defined;
  required = required;
  prepares = true;
}
