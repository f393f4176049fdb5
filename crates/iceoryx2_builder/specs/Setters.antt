-- Setters of a builder, each with the place of the setting that it sets among the builder's settings.
use Rattle.std.specs.Prelude.{◌≡◌, ℕ}
use Rattle.iceoryx2_event_builder.specs.declared.event.setting.EventSetter.{EventSetter}
use Rattle.iceoryx2_event_builder.specs.declared.event.setting.EventSetter.TheVariants as event
use Rattle.iceoryx2_publish_subscribe_builder.specs.declared.publish_subscribe.setting.PublishSubscribeSetter.{PublishSubscribeSetter}
use Rattle.iceoryx2_publish_subscribe_builder.specs.declared.publish_subscribe.setting.PublishSubscribeSetter.TheVariants as publish_subscribe
use Rattle.iceoryx2_request_response_builder.specs.declared.request_response.setting.RequestResponseSetter.{RequestResponseSetter}
use Rattle.iceoryx2_request_response_builder.specs.declared.request_response.setting.RequestResponseSetter.TheVariants as request_response

-- R is what a builder asks, and S are its setters.
pub record AreSetters {R S : Type 0} (with_setting : R → S → R) (place : S → ℕ) : Type 0 where
  -- of two different settings either may be set first
  pub commute : (asked : R) (one other : S) → (place one ≡ place other → ⊥)
      → with_setting (with_setting asked one) other ≡ with_setting (with_setting asked other) one
  -- of one setting the last value stands
  pub last_stands : (asked : R) (one other : S) → place one ≡ place other
      → with_setting (with_setting asked one) other ≡ with_setting asked other

abbrev pub event_place : EventSetter → ℕ
event_place (event.MaxNotifiers value) = 0
event_place (event.MaxListeners value) = 1
event_place (event.EventIdMaxValue value) = 2
event_place (event.MaxNodes value) = 3
event_place (event.NotifierCreatedEvent value) = 4
event_place (event.NotifierDroppedEvent value) = 5
event_place (event.NotifierDeadEvent value) = 6
event_place (event.Deadline value) = 7

abbrev pub publish_subscribe_place : PublishSubscribeSetter → ℕ
publish_subscribe_place (publish_subscribe.MaxPublishers value) = 0
publish_subscribe_place (publish_subscribe.MaxSubscribers value) = 1
publish_subscribe_place (publish_subscribe.SubscriberMaxBufferSize value) = 2
publish_subscribe_place (publish_subscribe.HistorySize value) = 3
publish_subscribe_place (publish_subscribe.SubscriberMaxBorrowedSamples value) = 4
publish_subscribe_place (publish_subscribe.EnableSafeOverflow value) = 5
publish_subscribe_place (publish_subscribe.MaxNodes value) = 6
publish_subscribe_place (publish_subscribe.PayloadAlignment value) = 7
publish_subscribe_place (publish_subscribe.PayloadType value) = 8
publish_subscribe_place (publish_subscribe.UserHeaderType value) = 9

abbrev pub request_response_place : RequestResponseSetter → ℕ
request_response_place (request_response.EnableSafeOverflowForRequests value) = 0
request_response_place (request_response.EnableSafeOverflowForResponses value) = 1
request_response_place (request_response.EnableFireAndForgetRequests value) = 2
request_response_place (request_response.MaxActiveRequestsPerClient value) = 3
request_response_place (request_response.MaxLoanedRequests value) = 4
request_response_place (request_response.MaxBorrowedResponsesPerPendingResponse value) = 5
request_response_place (request_response.MaxResponseBufferSize value) = 6
request_response_place (request_response.MaxServers value) = 7
request_response_place (request_response.MaxClients value) = 8
request_response_place (request_response.MaxNodes value) = 9
request_response_place (request_response.RequestPayloadAlignment value) = 10
request_response_place (request_response.ResponsePayloadAlignment value) = 11
request_response_place (request_response.RequestPayloadType value) = 12
request_response_place (request_response.RequestHeaderType value) = 13
request_response_place (request_response.ResponsePayloadType value) = 14
request_response_place (request_response.ResponseHeaderType value) = 15
