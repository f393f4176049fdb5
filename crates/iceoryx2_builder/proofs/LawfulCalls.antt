-- Each call of a builder is one of which the laws over whole calls speak.
use Rattle.std.proofs.Common.{ℕ, List, Result}
use Rattle.iceoryx2_attribute.specs.Attributes.{Pair}
use Rattle.iceoryx2_attribute.specs.Requirements.{Requirements, no_requirements}
use Rattle.iceoryx2_types.specs.Types.{Message}
use Rattle.iceoryx2_description.specs.declared.description.ServiceHash.{ServiceHash}
use Rattle.iceoryx2_description.specs.declared.time.ClockFault.{ClockFault}
use Rattle.iceoryx2_description.specs.Span.{Span}
use Rattle.iceoryx2_rounds.specs.BuilderCalls.{Way, creating}
use Rattle.iceoryx2_rounds.specs.LawfulCalls.{IsLawfulCall}
use Rattle.iceoryx2_rounds.proofs.RetriedAttributes.{none_required, own_without_attributes}
use Rattle.iceoryx2_event_builder.specs.Builder.{EventBuilderState}
use Rattle.iceoryx2_event_builder.specs.EventCalls.{event_call}
use Rattle.iceoryx2_event_builder.proofs.Builders.{event_builder, event_ends_at_once}
use Rattle.iceoryx2_publish_subscribe_builder.specs.Builder.{PublishSubscribeBuilderState}
use Rattle.iceoryx2_publish_subscribe_builder.specs.PublishSubscribeCalls.{publish_subscribe_call}
use Rattle.iceoryx2_publish_subscribe_builder.proofs.Builders.{publish_subscribe_builder, publish_subscribe_ends_at_once}
use Rattle.iceoryx2_request_response_builder.specs.Builder.{RequestResponseBuilderState, Messages}
use Rattle.iceoryx2_request_response_builder.specs.RequestResponseCalls.{request_response_call}
use Rattle.iceoryx2_request_response_builder.proofs.Builders.{request_response_builder, request_response_ends_at_once}
use Rattle.iceoryx2_builder.proofs.Adjusting.{events_only_raise, publish_subscribe_only_raises, request_response_only_raises}

pub event_call_is_lawful : (hash_of : ℕ → List ℕ → ServiceHash) (b : EventBuilderState) (way : Way) (defined : List Pair) (required : Requirements) (now : Result Span ClockFault)
    → IsLawfulCall (event_call hash_of b way defined required now)
event_call_is_lawful hash_of b way defined required now =
    let c = event_call hash_of b way defined required now in
    let builder = event_builder b.demand in record {
      takes_nodes = builder.takes_nodes defined;
      only_raises = events_only_raise;
      ends_at_once = event_ends_at_once b.demand defined required;
      accepts_own = own_without_attributes (creating c) (c.meaning c.asked) c.caller (builder.accepts_own defined no_requirements c.caller (none_required defined));
    }

pub publish_subscribe_call_is_lawful : (hash_of : ℕ → List ℕ → ServiceHash) (b : PublishSubscribeBuilderState) (message : Message) (way : Way) (defined : List Pair) (required : Requirements)
    → IsLawfulCall (publish_subscribe_call hash_of b message way defined required)
publish_subscribe_call_is_lawful hash_of b message way defined required =
    let c = publish_subscribe_call hash_of b message way defined required in
    let builder = publish_subscribe_builder b.demand message in record {
      takes_nodes = builder.takes_nodes defined;
      only_raises = publish_subscribe_only_raises;
      ends_at_once = publish_subscribe_ends_at_once b.demand message defined required;
      accepts_own = own_without_attributes (creating c) (c.meaning c.asked) c.caller (builder.accepts_own defined no_requirements c.caller (none_required defined));
    }

pub request_response_call_is_lawful : (hash_of : ℕ → List ℕ → ServiceHash) (b : RequestResponseBuilderState) (messages : Messages) (way : Way) (defined : List Pair) (required : Requirements)
    → IsLawfulCall (request_response_call hash_of b messages way defined required)
request_response_call_is_lawful hash_of b messages way defined required =
    let c = request_response_call hash_of b messages way defined required in
    let builder = request_response_builder b.demand messages.request messages.response in record {
      takes_nodes = builder.takes_nodes defined;
      only_raises = request_response_only_raises;
      ends_at_once = request_response_ends_at_once b.demand messages.request messages.response defined required;
      accepts_own = own_without_attributes (creating c) (c.meaning c.asked) c.caller (builder.accepts_own defined no_requirements c.caller (none_required defined));
    }
