-- What a description is.
use Rattle.std.specs.Prelude.{ℕ, ◌≡◌, ◌<◌, ◌^◌, List, length, All, Option, IfSome}
use Rattle.iceoryx2_description.specs.declared.description.TheConstants.{HASH_LENGTH}
use Rattle.iceoryx2_description.specs.declared.description.ServiceHash.{ServiceHash}
use Rattle.iceoryx2_description.specs.declared.description.MessagingPattern.{MessagingPattern}
use Rattle.iceoryx2_description.specs.declared.description.MessagingPattern.TheVariants.{Event, PublishSubscribe}
use Rattle.iceoryx2_description.specs.declared.description.MessagingPattern.TheVariants.{RequestResponse}
use Rattle.iceoryx2_description.specs.declared.event.StaticConfig.{StaticConfig as EventConfig}
use Rattle.iceoryx2_description.specs.declared.publish_subscribe.StaticConfig.{StaticConfig as PublishSubscribeConfig}
use Rattle.iceoryx2_description.specs.declared.request_response.StaticConfig.{StaticConfig as RequestResponseConfig}
use Rattle.iceoryx2_description.specs.declared.event.Deadline.{Deadline}
use Rattle.iceoryx2_attribute.specs.Attributes.{Pair, AreAttributes}
use Rattle.iceoryx2_description.specs.Span.{IsSpan}
use Rattle.iceoryx2_description.specs.Names.{IsName}
use Rattle.iceoryx2_description.specs.Messages.{IsMeasuredMessage}

-- What nodes that share a service agree on.
pub record Description : Type 0 where
  pub hash : ServiceHash
  pub name : List ℕ
  -- strictly ascending
  pub attributes : List Pair
  pub pattern : MessagingPattern
  -- the id of the node that created the service, where it is told
  pub creator : Option ℕ

abbrev pub max_nodes_of : MessagingPattern → ℕ
max_nodes_of (Event s) = s.max_nodes
max_nodes_of (PublishSubscribe s) = s.max_nodes
max_nodes_of (RequestResponse s) = s.max_nodes

-- both of events, both of publish-subscribe, or both of request-response
abbrev pub IsSamePattern : MessagingPattern → MessagingPattern → Type 0
IsSamePattern (Event s) (Event t) = Unit {0}
IsSamePattern (Event s) (PublishSubscribe t) = ⊥
IsSamePattern (Event s) (RequestResponse t) = ⊥
IsSamePattern (PublishSubscribe s) (Event t) = ⊥
IsSamePattern (PublishSubscribe s) (PublishSubscribe t) = Unit {0}
IsSamePattern (PublishSubscribe s) (RequestResponse t) = ⊥
IsSamePattern (RequestResponse s) (Event t) = ⊥
IsSamePattern (RequestResponse s) (PublishSubscribe t) = ⊥
IsSamePattern (RequestResponse s) (RequestResponse t) = Unit {0}

abbrev pub IsDeadline : Deadline → Type 0
IsDeadline d = IsSpan d.value × IsSpan d.creation_time

pub record IsEvent (s : EventConfig) : Type 0 where
  pub max_notifiers : s.max_notifiers < 2 ^ 64
  pub max_listeners : s.max_listeners < 2 ^ 64
  pub event_id_max_value : s.event_id_max_value < 2 ^ 64
  pub max_nodes : s.max_nodes < 2 ^ 64
  pub created : IfSome s.notifier_created_event (λ id. id < 2 ^ 64)
  pub dropped : IfSome s.notifier_dropped_event (λ id. id < 2 ^ 64)
  pub dead : IfSome s.notifier_dead_event (λ id. id < 2 ^ 64)
  pub deadline : IfSome s.deadline IsDeadline

pub record IsPublishSubscribe (s : PublishSubscribeConfig) : Type 0 where
  pub max_publishers : s.max_publishers < 2 ^ 64
  pub max_subscribers : s.max_subscribers < 2 ^ 64
  pub subscriber_max_buffer_size : s.subscriber_max_buffer_size < 2 ^ 64
  pub history_size : s.history_size < 2 ^ 64
  pub subscriber_max_borrowed_samples : s.subscriber_max_borrowed_samples < 2 ^ 64
  pub max_nodes : s.max_nodes < 2 ^ 64
  pub message : IsMeasuredMessage s.message_type_details

pub record IsRequestResponse (s : RequestResponseConfig) : Type 0 where
  pub max_active_requests_per_client : s.max_active_requests_per_client < 2 ^ 64
  pub max_loaned_requests : s.max_loaned_requests < 2 ^ 64
  pub max_borrowed_responses_per_pending_response : s.max_borrowed_responses_per_pending_response < 2 ^ 64
  pub max_response_buffer_size : s.max_response_buffer_size < 2 ^ 64
  pub max_servers : s.max_servers < 2 ^ 64
  pub max_clients : s.max_clients < 2 ^ 64
  pub max_nodes : s.max_nodes < 2 ^ 64
  pub request : IsMeasuredMessage s.request_message_type_details
  pub response : IsMeasuredMessage s.response_message_type_details

abbrev pub IsPattern : MessagingPattern → Type 0
IsPattern (Event s) = IsEvent s
IsPattern (PublishSubscribe s) = IsPublishSubscribe s
IsPattern (RequestResponse s) = IsRequestResponse s

-- as many bytes as a hash has
pub record IsHash (h : ServiceHash) : Type 0 where
  pub length : length h.0 ≡ HASH_LENGTH
  pub bytes : All (λ b. b < 256) h.0

-- The limits of a description.
pub record IsDescription (d : Description) : Type 0 where
  pub hash : IsHash d.hash
  pub name : IsName d.name
  pub attributes : AreAttributes d.attributes
  pub pattern : IsPattern d.pattern
  pub creator : IfSome d.creator (λ id. id < 2 ^ 64)
