-- What each setter of a setting requires, beside what is there, and why an open is refused that doesn't find it. The
-- setters of types set none.
use Rattle.std.specs.Prelude.{ℕ, List, Option, Some, None, codes}
use Rattle.iceoryx2_event_builder.specs.Event.{deadline_value}
use Rattle.iceoryx2_event_builder.specs.declared.event.setting.EventSetter.{EventSetter}
use Rattle.iceoryx2_event_builder.specs.declared.event.setting.EventSetter.TheVariants as event_set
use Rattle.iceoryx2_description.specs.declared.event.StaticConfig.{StaticConfig as EventSettings}
use Rattle.iceoryx2_publish_subscribe_builder.specs.declared.publish_subscribe.setting.PublishSubscribeSetter.{PublishSubscribeSetter}
use Rattle.iceoryx2_publish_subscribe_builder.specs.declared.publish_subscribe.setting.PublishSubscribeSetter.TheVariants as sample_set
use Rattle.iceoryx2_description.specs.declared.publish_subscribe.StaticConfig.{StaticConfig as SampleSettings}
use Rattle.iceoryx2_request_response_builder.specs.declared.request_response.setting.RequestResponseSetter.{RequestResponseSetter}
use Rattle.iceoryx2_request_response_builder.specs.declared.request_response.setting.RequestResponseSetter.TheVariants as request_set
use Rattle.iceoryx2_description.specs.declared.request_response.StaticConfig.{StaticConfig as RequestSettings}
use Rattle.iceoryx2_errors.specs.declared.refusal.Reason.{Reason}
use Rattle.iceoryx2_errors.specs.declared.refusal.Reason.TheVariants as reason
use Rattle.explain_serve.specs.Settings.{Compared}
use Rattle.explain_serve.specs.declared.settings.value.Value.{Value}
use Rattle.explain_serve.specs.declared.settings.value.Value.TheVariants.{Number as number, Truth as truth, Event as event, Time as time}

abbrev compared : List ℕ → Reason → (required offered : Value) → Compared
compared name why required offered = record { name = name; reason = why; required = required; offered = offered }

abbrev pub event_compared : EventSetter → EventSettings → Option Compared
event_compared (event_set.MaxNotifiers value) there =
    Some (compared (codes "max_notifiers") reason.DoesNotSupportRequestedAmountOfNotifiers
    (number value) (number there.max_notifiers))
event_compared (event_set.MaxListeners value) there =
    Some (compared (codes "max_listeners") reason.DoesNotSupportRequestedAmountOfListeners
    (number value) (number there.max_listeners))
event_compared (event_set.EventIdMaxValue value) there =
    Some (compared (codes "event_id_max_value") reason.DoesNotSupportRequestedMaxEventId
    (number value) (number there.event_id_max_value))
event_compared (event_set.MaxNodes value) there =
    Some (compared (codes "max_nodes") reason.DoesNotSupportRequestedAmountOfNodes
    (number value) (number there.max_nodes))
event_compared (event_set.NotifierCreatedEvent value) there =
    Some (compared (codes "notifier_created_event") reason.IncompatibleNotifierCreatedEvent
    (event value) (event there.notifier_created_event))
event_compared (event_set.NotifierDroppedEvent value) there =
    Some (compared (codes "notifier_dropped_event") reason.IncompatibleNotifierDroppedEvent
    (event value) (event there.notifier_dropped_event))
event_compared (event_set.NotifierDeadEvent value) there =
    Some (compared (codes "notifier_dead_event") reason.IncompatibleNotifierDeadEvent
    (event value) (event there.notifier_dead_event))
event_compared (event_set.Deadline value) there =
    Some (compared (codes "deadline") reason.IncompatibleDeadline
    (time value) (time (deadline_value there.deadline)))

abbrev pub publish_subscribe_compared : PublishSubscribeSetter → SampleSettings
    → Option Compared
publish_subscribe_compared (sample_set.MaxPublishers value) there =
    Some (compared (codes "max_publishers") reason.DoesNotSupportRequestedAmountOfPublishers
    (number value) (number there.max_publishers))
publish_subscribe_compared (sample_set.MaxSubscribers value) there =
    Some (compared (codes "max_subscribers") reason.DoesNotSupportRequestedAmountOfSubscribers
    (number value) (number there.max_subscribers))
publish_subscribe_compared (sample_set.SubscriberMaxBufferSize value) there =
    Some (compared (codes "subscriber_max_buffer_size") reason.DoesNotSupportRequestedMinBufferSize
    (number value) (number there.subscriber_max_buffer_size))
publish_subscribe_compared (sample_set.HistorySize value) there =
    Some (compared (codes "history_size") reason.DoesNotSupportRequestedMinHistorySize
    (number value) (number there.history_size))
publish_subscribe_compared (sample_set.SubscriberMaxBorrowedSamples value) there =
    Some (compared (codes "subscriber_max_borrowed_samples")
    reason.DoesNotSupportRequestedMinSubscriberBorrowedSamples
    (number value) (number there.subscriber_max_borrowed_samples))
publish_subscribe_compared (sample_set.EnableSafeOverflow value) there =
    Some (compared (codes "enable_safe_overflow") reason.IncompatibleOverflowBehavior
    (truth value) (truth there.enable_safe_overflow))
publish_subscribe_compared (sample_set.MaxNodes value) there =
    Some (compared (codes "max_nodes") reason.DoesNotSupportRequestedAmountOfNodes
    (number value) (number there.max_nodes))
publish_subscribe_compared (sample_set.PayloadType value) there = None
publish_subscribe_compared (sample_set.UserHeaderType value) there = None
publish_subscribe_compared (sample_set.PayloadAlignment value) there = None

abbrev pub request_response_compared : RequestResponseSetter → RequestSettings
    → Option Compared
request_response_compared (request_set.EnableSafeOverflowForRequests value) there =
    Some (compared (codes "enable_safe_overflow_for_requests") reason.IncompatibleOverflowBehaviorForRequests
    (truth value) (truth there.enable_safe_overflow_for_requests))
request_response_compared (request_set.EnableSafeOverflowForResponses value) there =
    Some (compared (codes "enable_safe_overflow_for_responses") reason.IncompatibleOverflowBehaviorForResponses
    (truth value) (truth there.enable_safe_overflow_for_responses))
request_response_compared (request_set.EnableFireAndForgetRequests value) there =
    Some (compared (codes "enable_fire_and_forget_requests")
    reason.IncompatibleBehaviorForFireAndForgetRequests
    (truth value) (truth there.enable_fire_and_forget_requests))
request_response_compared (request_set.MaxActiveRequestsPerClient value) there =
    Some (compared (codes "max_active_requests_per_client")
    reason.DoesNotSupportRequestedAmountOfActiveRequestsPerClient
    (number value) (number there.max_active_requests_per_client))
request_response_compared (request_set.MaxLoanedRequests value) there =
    Some (compared (codes "max_loaned_requests") reason.DoesNotSupportRequestedAmountOfClientRequestLoans
    (number value) (number there.max_loaned_requests))
request_response_compared (request_set.MaxBorrowedResponsesPerPendingResponse value) there =
    Some (compared (codes "max_borrowed_responses_per_pending_response")
    reason.DoesNotSupportRequestedAmountOfBorrowedResponsesPerPendingResponse
    (number value) (number there.max_borrowed_responses_per_pending_response))
request_response_compared (request_set.MaxResponseBufferSize value) there =
    Some (compared (codes "max_response_buffer_size") reason.DoesNotSupportRequestedResponseBufferSize
    (number value) (number there.max_response_buffer_size))
request_response_compared (request_set.MaxServers value) there =
    Some (compared (codes "max_servers") reason.DoesNotSupportRequestedAmountOfServers
    (number value) (number there.max_servers))
request_response_compared (request_set.MaxClients value) there =
    Some (compared (codes "max_clients") reason.DoesNotSupportRequestedAmountOfClients
    (number value) (number there.max_clients))
request_response_compared (request_set.MaxNodes value) there =
    Some (compared (codes "max_nodes") reason.DoesNotSupportRequestedAmountOfNodes
    (number value) (number there.max_nodes))
request_response_compared (request_set.RequestPayloadType value) there = None
request_response_compared (request_set.RequestHeaderType value) there = None
request_response_compared (request_set.RequestPayloadAlignment value) there = None
request_response_compared (request_set.ResponsePayloadType value) there = None
request_response_compared (request_set.ResponseHeaderType value) there = None
request_response_compared (request_set.ResponsePayloadAlignment value) there = None
