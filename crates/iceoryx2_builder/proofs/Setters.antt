-- Setters of each pattern: each sets its own setting.
use Rattle.std.proofs.Common.{◌≡◌, ℕ, true, false, cond, refl, ◌∙◌, arith}
use Rattle.std.specs.Prelude.{nat_eq}
use Rattle.std.proofs.lemmas.Bool.Decides.{nat_tests}
use Rattle.iceoryx2_builder.specs.Setters.{AreSetters, event_place, publish_subscribe_place, request_response_place}
use Rattle.iceoryx2_event_builder.specs.Builder as event
use Rattle.iceoryx2_event_builder.specs.declared.event.setting.EventSetter.{EventSetter}
use Rattle.iceoryx2_event_builder.specs.declared.event.setting.EventSetter.TheVariants as set_event
use Rattle.iceoryx2_publish_subscribe_builder.specs.Builder as publish_subscribe
use Rattle.iceoryx2_publish_subscribe_builder.specs.declared.publish_subscribe.setting.PublishSubscribeSetter.{PublishSubscribeSetter}
use Rattle.iceoryx2_publish_subscribe_builder.specs.declared.publish_subscribe.setting.PublishSubscribeSetter.TheVariants as publish
use Rattle.iceoryx2_request_response_builder.specs.Builder as request_response
use Rattle.iceoryx2_request_response_builder.specs.declared.request_response.setting.RequestResponseSetter.{RequestResponseSetter}
use Rattle.iceoryx2_request_response_builder.specs.declared.request_response.setting.RequestResponseSetter.TheVariants as request

module _ {R S : Type 0} (with_setting : R → S → R) (place : S → ℕ) where
  -- after two setters: as after the second alone where they set one setting, and else as in the other order
  abbrev pub Settles : R → S → S → Type 0
  Settles asked one other = with_setting (with_setting asked one) other
      ≡ cond (nat_eq (place one) (place other)) (with_setting asked other) (with_setting (with_setting asked other) one)

  same_place : (m n : ℕ) → m ≡ n → nat_eq m n ≡ true
  same_place m n e = grind (arith, nat_tests, e)

  other_place : (m n : ℕ) → (m ≡ n → ⊥) → nat_eq m n ≡ false
  other_place m n e = grind (arith, nat_tests, e)

  are_setters : ((asked : R) (one other : S) → Settles asked one other) → AreSetters with_setting place
  are_setters settles = record {
    commute = λ asked one other apart. settles asked one other ∙ rw (other_place (place one) (place other) apart) refl;
    last_stands = λ asked one other same. settles asked one other ∙ rw (same_place (place one) (place other) same) refl;
  }

event_settles : (asked : event.EventBuilderState) (one other : EventSetter) → Settles event.with_setting event_place asked one other
event_settles asked (set_event.MaxNotifiers a) (set_event.MaxNotifiers b) = refl
event_settles asked (set_event.MaxListeners a) (set_event.MaxListeners b) = refl
event_settles asked (set_event.EventIdMaxValue a) (set_event.EventIdMaxValue b) = refl
event_settles asked (set_event.MaxNodes a) (set_event.MaxNodes b) = refl
event_settles asked (set_event.NotifierCreatedEvent a) (set_event.NotifierCreatedEvent b) = refl
event_settles asked (set_event.NotifierDroppedEvent a) (set_event.NotifierDroppedEvent b) = refl
event_settles asked (set_event.NotifierDeadEvent a) (set_event.NotifierDeadEvent b) = refl
event_settles asked (set_event.Deadline a) (set_event.Deadline b) = refl
event_settles asked _ _ = refl

pub event_setters : AreSetters event.with_setting event_place
event_setters = are_setters event.with_setting event_place event_settles

publish_subscribe_settles : (asked : publish_subscribe.PublishSubscribeBuilderState) (one other : PublishSubscribeSetter) → Settles publish_subscribe.with_setting publish_subscribe_place asked one other
publish_subscribe_settles asked (publish.MaxPublishers a) (publish.MaxPublishers b) = refl
publish_subscribe_settles asked (publish.MaxSubscribers a) (publish.MaxSubscribers b) = refl
publish_subscribe_settles asked (publish.SubscriberMaxBufferSize a) (publish.SubscriberMaxBufferSize b) = refl
publish_subscribe_settles asked (publish.HistorySize a) (publish.HistorySize b) = refl
publish_subscribe_settles asked (publish.SubscriberMaxBorrowedSamples a) (publish.SubscriberMaxBorrowedSamples b) = refl
publish_subscribe_settles asked (publish.EnableSafeOverflow a) (publish.EnableSafeOverflow b) = refl
publish_subscribe_settles asked (publish.MaxNodes a) (publish.MaxNodes b) = refl
publish_subscribe_settles asked (publish.PayloadAlignment a) (publish.PayloadAlignment b) = refl
publish_subscribe_settles asked (publish.PayloadType a) (publish.PayloadType b) = refl
publish_subscribe_settles asked (publish.UserHeaderType a) (publish.UserHeaderType b) = refl
publish_subscribe_settles asked _ _ = refl

pub publish_subscribe_setters : AreSetters publish_subscribe.with_setting publish_subscribe_place
publish_subscribe_setters = are_setters publish_subscribe.with_setting publish_subscribe_place publish_subscribe_settles

request_response_settles : (asked : request_response.RequestResponseBuilderState) (one other : RequestResponseSetter) → Settles request_response.with_setting request_response_place asked one other
request_response_settles asked (request.EnableSafeOverflowForRequests a) (request.EnableSafeOverflowForRequests b) = refl
request_response_settles asked (request.EnableSafeOverflowForResponses a) (request.EnableSafeOverflowForResponses b) = refl
request_response_settles asked (request.EnableFireAndForgetRequests a) (request.EnableFireAndForgetRequests b) = refl
request_response_settles asked (request.MaxActiveRequestsPerClient a) (request.MaxActiveRequestsPerClient b) = refl
request_response_settles asked (request.MaxLoanedRequests a) (request.MaxLoanedRequests b) = refl
request_response_settles asked (request.MaxBorrowedResponsesPerPendingResponse a) (request.MaxBorrowedResponsesPerPendingResponse b) = refl
request_response_settles asked (request.MaxResponseBufferSize a) (request.MaxResponseBufferSize b) = refl
request_response_settles asked (request.MaxServers a) (request.MaxServers b) = refl
request_response_settles asked (request.MaxClients a) (request.MaxClients b) = refl
request_response_settles asked (request.MaxNodes a) (request.MaxNodes b) = refl
request_response_settles asked (request.RequestPayloadAlignment a) (request.RequestPayloadAlignment b) = refl
request_response_settles asked (request.ResponsePayloadAlignment a) (request.ResponsePayloadAlignment b) = refl
request_response_settles asked (request.RequestPayloadType a) (request.RequestPayloadType b) = refl
request_response_settles asked (request.RequestHeaderType a) (request.RequestHeaderType b) = refl
request_response_settles asked (request.ResponsePayloadType a) (request.ResponsePayloadType b) = refl
request_response_settles asked (request.ResponseHeaderType a) (request.ResponseHeaderType b) = refl
request_response_settles asked _ _ = refl

pub request_response_setters : AreSetters request_response.with_setting request_response_place
request_response_setters = are_setters request_response.with_setting request_response_place request_response_settles
