-- What each pattern calls its settings, and what they take: a table of rows for each pattern.
use Rattle.std.specs.Prelude.{true, false, List, [], ◌∷◌, codes}
use Rattle.iceoryx2_event_builder.specs.declared.event.setting.EventSetter.{EventSetter}
use Rattle.iceoryx2_event_builder.specs.declared.event.setting.EventSetter.TheVariants as events
use Rattle.iceoryx2_publish_subscribe_builder.specs.declared.publish_subscribe.setting.PublishSubscribeSetter.{PublishSubscribeSetter}
use Rattle.iceoryx2_publish_subscribe_builder.specs.declared.publish_subscribe.setting.PublishSubscribeSetter.TheVariants as samples
use Rattle.iceoryx2_request_response_builder.specs.declared.request_response.setting.RequestResponseSetter.{RequestResponseSetter}
use Rattle.iceoryx2_request_response_builder.specs.declared.request_response.setting.RequestResponseSetter.TheVariants as requests
use Rattle.negotiate_lines.specs.Vocabulary.{VocabularyRow, Vocabulary, number, truth, event, time, alignment, type}

abbrev pub event_rows : List (VocabularyRow EventSetter)
event_rows =
    (codes "max_notifiers", number events.MaxNotifiers)
    ∷ (codes "max_listeners", number events.MaxListeners)
    ∷ (codes "event_id_max_value", number events.EventIdMaxValue)
    ∷ (codes "max_nodes", number events.MaxNodes)
    ∷ (codes "notifier_created_event", event events.NotifierCreatedEvent)
    ∷ (codes "notifier_dropped_event", event events.NotifierDroppedEvent)
    ∷ (codes "notifier_dead_event", event events.NotifierDeadEvent)
    ∷ (codes "deadline", time events.Deadline)
    ∷ []

abbrev pub publish_subscribe_rows : List (VocabularyRow PublishSubscribeSetter)
publish_subscribe_rows =
    (codes "max_publishers", number samples.MaxPublishers)
    ∷ (codes "max_subscribers", number samples.MaxSubscribers)
    ∷ (codes "subscriber_max_buffer_size", number samples.SubscriberMaxBufferSize)
    ∷ (codes "history_size", number samples.HistorySize)
    ∷ (codes "subscriber_max_borrowed_samples", number samples.SubscriberMaxBorrowedSamples)
    ∷ (codes "enable_safe_overflow", truth samples.EnableSafeOverflow)
    ∷ (codes "max_nodes", number samples.MaxNodes)
    ∷ (codes "payload", type samples.PayloadType)
    ∷ (codes "user_header", type samples.UserHeaderType)
    ∷ (codes "payload_alignment", alignment samples.PayloadAlignment)
    ∷ []

abbrev pub request_response_rows : List (VocabularyRow RequestResponseSetter)
request_response_rows =
    (codes "enable_safe_overflow_for_requests", truth requests.EnableSafeOverflowForRequests)
    ∷ (codes "enable_safe_overflow_for_responses", truth requests.EnableSafeOverflowForResponses)
    ∷ (codes "enable_fire_and_forget_requests", truth requests.EnableFireAndForgetRequests)
    ∷ (codes "max_active_requests_per_client", number requests.MaxActiveRequestsPerClient)
    ∷ (codes "max_loaned_requests", number requests.MaxLoanedRequests)
    ∷ (codes "max_borrowed_responses_per_pending_response", number requests.MaxBorrowedResponsesPerPendingResponse)
    ∷ (codes "max_response_buffer_size", number requests.MaxResponseBufferSize)
    ∷ (codes "max_servers", number requests.MaxServers)
    ∷ (codes "max_clients", number requests.MaxClients)
    ∷ (codes "max_nodes", number requests.MaxNodes)
    ∷ (codes "request_payload", type requests.RequestPayloadType)
    ∷ (codes "request_header", type requests.RequestHeaderType)
    ∷ (codes "request_payload_alignment", alignment requests.RequestPayloadAlignment)
    ∷ (codes "response_payload", type requests.ResponsePayloadType)
    ∷ (codes "response_header", type requests.ResponseHeaderType)
    ∷ (codes "response_payload_alignment", alignment requests.ResponsePayloadAlignment)
    ∷ []

abbrev pub event_vocabulary : Vocabulary EventSetter
event_vocabulary = record { pattern = codes "event"; rows = event_rows; has_clock = true }

abbrev pub publish_subscribe_vocabulary : Vocabulary PublishSubscribeSetter
publish_subscribe_vocabulary = record { pattern = codes "pubsub"; rows = publish_subscribe_rows; has_clock = false }

abbrev pub request_response_vocabulary : Vocabulary RequestResponseSetter
request_response_vocabulary = record { pattern = codes "rr"; rows = request_response_rows; has_clock = false }
