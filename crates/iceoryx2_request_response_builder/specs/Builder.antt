-- What a builder of request-response holds.
use Rattle.std.specs.Prelude.{ℕ, List, Some, false, true, codes}
use Rattle.iceoryx2_types.specs.Types.{Detail, Message, fixed_size}
use Rattle.iceoryx2_description.specs.declared.config.RequestResponse.{RequestResponse as Settings}
use Rattle.iceoryx2_rounds.specs.Requested.{no_types, requested_message}
use Rattle.iceoryx2_rounds.specs.declared.requested.RequestedTypes.{RequestedTypes}
use Rattle.iceoryx2_request_response_builder.specs.declared.request_response.TheConstants.{PREFIX}
use Rattle.iceoryx2_request_response_builder.specs.declared.request_response.demand.Marks.{Marks}
use Rattle.iceoryx2_request_response_builder.specs.declared.request_response.demand.PreparedDemand.{PreparedDemand}
use Rattle.iceoryx2_request_response_builder.specs.declared.request_response.demand.RequestResponseDemand.{RequestResponseDemand}
use Rattle.iceoryx2_request_response_builder.specs.declared.request_response.requested.RequestedMessages.{RequestedMessages}
use Rattle.iceoryx2_request_response_builder.specs.declared.request_response.setting.RequestResponseSetter.{RequestResponseSetter}
use Rattle.iceoryx2_request_response_builder.specs.declared.request_response.setting.RequestResponseSetter.TheVariants as set

-- a builder of request-response, whatever its payloads and its user headers are
pub record RequestResponseBuilderState : Type 0 where
  pub node : ℕ
  pub name : List ℕ
  pub demand : RequestResponseDemand
  pub types : RequestedMessages

-- the prefix of services of request-response
abbrev pub prefix_of_request_response : ℕ
prefix_of_request_response = PREFIX

-- the configured settings with nothing marked
abbrev pub fresh_demand : Settings → RequestResponseDemand
fresh_demand defaults = record {
  settings = defaults;
  marks = record {
    enable_safe_overflow_for_requests = false;
    enable_safe_overflow_for_responses = false;
    enable_fire_and_forget_requests = false;
    max_active_requests_per_client = false;
    max_loaned_requests = false;
    max_borrowed_responses_per_pending_response = false;
    max_response_buffer_size = false;
    max_servers = false;
    max_clients = false;
    max_nodes = false;
  };
}

-- each type is the message's own, and aligned as it is
abbrev pub no_message_types : RequestedMessages
no_message_types = record { request = no_types; response = no_types }

-- what a builder asks that no setter has changed
abbrev pub fresh_builder : ℕ → List ℕ → Settings → RequestResponseBuilderState
fresh_builder node name defaults =
    record { node = node; name = name; demand = fresh_demand defaults; types = no_message_types }

-- with other settings and marks
abbrev pub demanding : RequestResponseBuilderState → (Settings → Settings) → (Marks → Marks)
    → RequestResponseBuilderState
demanding r settings marks =
    record r { demand = record { settings = settings r.demand.settings; marks = marks r.demand.marks } }

-- with other types of its requests, and of its responses
abbrev pub of_request : RequestResponseBuilderState → (RequestedTypes → RequestedTypes) → RequestResponseBuilderState
of_request r types = record r { types = record r.types { request = types r.types.request } }

abbrev pub of_response : RequestResponseBuilderState → (RequestedTypes → RequestedTypes) → RequestResponseBuilderState
of_response r types = record r { types = record r.types { response = types r.types.response } }

-- The builder after one setter: a setting's value is set, and the setting is marked. The last six are no settings of
-- the service, and mark nothing.
abbrev pub with_setting : RequestResponseBuilderState → RequestResponseSetter → RequestResponseBuilderState
with_setting r (set.EnableSafeOverflowForRequests b) = demanding r
    (λ s. record s { enable_safe_overflow_for_requests = b })
    (λ m. record m { enable_safe_overflow_for_requests = true })
with_setting r (set.EnableSafeOverflowForResponses b) = demanding r
    (λ s. record s { enable_safe_overflow_for_responses = b })
    (λ m. record m { enable_safe_overflow_for_responses = true })
with_setting r (set.EnableFireAndForgetRequests b) = demanding r
    (λ s. record s { enable_fire_and_forget_requests = b })
    (λ m. record m { enable_fire_and_forget_requests = true })
with_setting r (set.MaxActiveRequestsPerClient n) = demanding r
    (λ s. record s { max_active_requests_per_client = n })
    (λ m. record m { max_active_requests_per_client = true })
with_setting r (set.MaxLoanedRequests n) =
    demanding r (λ s. record s { max_loaned_requests = n }) (λ m. record m { max_loaned_requests = true })
with_setting r (set.MaxBorrowedResponsesPerPendingResponse n) = demanding r
    (λ s. record s { max_borrowed_responses_per_pending_response = n })
    (λ m. record m { max_borrowed_responses_per_pending_response = true })
with_setting r (set.MaxResponseBufferSize n) =
    demanding r (λ s. record s { max_response_buffer_size = n }) (λ m. record m { max_response_buffer_size = true })
with_setting r (set.MaxServers n) =
    demanding r (λ s. record s { max_servers = n }) (λ m. record m { max_servers = true })
with_setting r (set.MaxClients n) =
    demanding r (λ s. record s { max_clients = n }) (λ m. record m { max_clients = true })
with_setting r (set.MaxNodes n) =
    demanding r (λ s. record s { max_nodes = n }) (λ m. record m { max_nodes = true })
with_setting r (set.RequestPayloadAlignment n) = of_request r (λ t. record t { alignment = Some n })
with_setting r (set.ResponsePayloadAlignment n) = of_response r (λ t. record t { alignment = Some n })
with_setting r (set.RequestPayloadType detail) = of_request r (λ t. record t { payload = Some detail })
with_setting r (set.RequestHeaderType detail) = of_request r (λ t. record t { user_header = Some detail })
with_setting r (set.ResponsePayloadType detail) = of_response r (λ t. record t { payload = Some detail })
with_setting r (set.ResponseHeaderType detail) = of_response r (λ t. record t { user_header = Some detail })

-- the header of each request, and of each response
abbrev pub request_header : Detail
request_header = fixed_size (codes "request_response::RequestHeader") 32 8

abbrev pub response_header : Detail
response_header = fixed_size (codes "request_response::ResponseHeader") 32 8

-- what the requests and the responses of a service are made of
pub record Messages : Type 0 where
  pub request : Message
  pub response : Message

-- The messages of two payloads and two user headers, with what stands in their place and how far the payloads are
-- aligned.
abbrev pub messages_for : (request_payload request_user_header response_payload response_user_header : Detail)
    → RequestedMessages → Messages
messages_for request_payload request_user_header response_payload response_user_header types = record {
  request = requested_message request_header request_payload request_user_header types.request;
  response = requested_message response_header response_payload response_user_header types.response;
}

-- what a call asks whose messages are prepared
abbrev pub asked_with : RequestResponseDemand → Messages → PreparedDemand
asked_with demand messages = record { demand = demand; request = messages.request; response = messages.response }
