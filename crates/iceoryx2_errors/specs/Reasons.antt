-- Why calls are refused: of each error of the nine enums the reason, which has its name.
use Rattle.std.specs.Prelude.{ℕ, Bool, true, false, List, [], ◌∷◌, codes}
use Rattle.iceoryx2_errors.specs.declared.refusal.Reason.{Reason}
use Rattle.iceoryx2_errors.specs.declared.refusal.Reason.TheVariants as reason
use Rattle.iceoryx2_errors.specs.declared.refusal.Refusal.{Refusal}
use Rattle.iceoryx2_errors.specs.declared.refusal.Refusal.TheVariants as refusal
use Rattle.iceoryx2_errors.specs.declared.error.events.EventOpenError.{EventOpenError}
use Rattle.iceoryx2_errors.specs.declared.error.events.EventOpenError.TheVariants as opening
use Rattle.iceoryx2_errors.specs.declared.error.events.EventCreateError.{EventCreateError}
use Rattle.iceoryx2_errors.specs.declared.error.events.EventCreateError.TheVariants as creating
use Rattle.iceoryx2_errors.specs.declared.error.events.EventOpenOrCreateError.{EventOpenOrCreateError}
use Rattle.iceoryx2_errors.specs.declared.error.events.EventOpenOrCreateError.TheVariants as event_either
use Rattle.iceoryx2_errors.specs.declared.error.publish_subscribe.PublishSubscribeOpenError.{PublishSubscribeOpenError}
use Rattle.iceoryx2_errors.specs.declared.error.publish_subscribe.PublishSubscribeOpenError.TheVariants as subscribe_opening
use Rattle.iceoryx2_errors.specs.declared.error.publish_subscribe.PublishSubscribeCreateError.{PublishSubscribeCreateError}
use Rattle.iceoryx2_errors.specs.declared.error.publish_subscribe.PublishSubscribeCreateError.TheVariants as subscribe_creating
use Rattle.iceoryx2_errors.specs.declared.error.publish_subscribe.PublishSubscribeOpenOrCreateError.{PublishSubscribeOpenOrCreateError}
use Rattle.iceoryx2_errors.specs.declared.error.publish_subscribe.PublishSubscribeOpenOrCreateError.TheVariants as subscribe_either
use Rattle.iceoryx2_errors.specs.declared.error.request_response.RequestResponseOpenError.{RequestResponseOpenError}
use Rattle.iceoryx2_errors.specs.declared.error.request_response.RequestResponseOpenError.TheVariants as request_opening
use Rattle.iceoryx2_errors.specs.declared.error.request_response.RequestResponseCreateError.{RequestResponseCreateError}
use Rattle.iceoryx2_errors.specs.declared.error.request_response.RequestResponseCreateError.TheVariants as request_creating
use Rattle.iceoryx2_errors.specs.declared.error.request_response.RequestResponseOpenOrCreateError.{RequestResponseOpenOrCreateError}
use Rattle.iceoryx2_errors.specs.declared.error.request_response.RequestResponseOpenOrCreateError.TheVariants as request_either

-- ---- a reason

abbrev pub reason_name : Reason → List ℕ
reason_name reason.DoesNotExist = codes "DoesNotExist"
reason_name reason.InsufficientPermissions = codes "InsufficientPermissions"
reason_name reason.ServiceInCorruptedState = codes "ServiceInCorruptedState"
reason_name reason.IncompatibleMessagingPattern = codes "IncompatibleMessagingPattern"
reason_name reason.IncompatibleAttributes = codes "IncompatibleAttributes"
reason_name reason.InternalFailure = codes "InternalFailure"
reason_name reason.IncompatibleDeadline = codes "IncompatibleDeadline"
reason_name reason.IncompatibleNotifierCreatedEvent = codes "IncompatibleNotifierCreatedEvent"
reason_name reason.IncompatibleNotifierDroppedEvent = codes "IncompatibleNotifierDroppedEvent"
reason_name reason.IncompatibleNotifierDeadEvent = codes "IncompatibleNotifierDeadEvent"
reason_name reason.HangsInCreation = codes "HangsInCreation"
reason_name reason.DoesNotSupportRequestedAmountOfNotifiers = codes "DoesNotSupportRequestedAmountOfNotifiers"
reason_name reason.DoesNotSupportRequestedAmountOfListeners = codes "DoesNotSupportRequestedAmountOfListeners"
reason_name reason.DoesNotSupportRequestedMaxEventId = codes "DoesNotSupportRequestedMaxEventId"
reason_name reason.DoesNotSupportRequestedAmountOfNodes = codes "DoesNotSupportRequestedAmountOfNodes"
reason_name reason.ExceedsMaxNumberOfNodes = codes "ExceedsMaxNumberOfNodes"
reason_name reason.IsMarkedForDestruction = codes "IsMarkedForDestruction"
reason_name reason.OutOfMemory = codes "OutOfMemory"
reason_name reason.IsBeingCreatedByAnotherInstance = codes "IsBeingCreatedByAnotherInstance"
reason_name reason.AlreadyExists = codes "AlreadyExists"
reason_name reason.SystemInFlux = codes "SystemInFlux"
reason_name reason.IncompatibleTypes = codes "IncompatibleTypes"
reason_name reason.DoesNotSupportRequestedMinBufferSize = codes "DoesNotSupportRequestedMinBufferSize"
reason_name reason.DoesNotSupportRequestedMinHistorySize = codes "DoesNotSupportRequestedMinHistorySize"
reason_name reason.DoesNotSupportRequestedMinSubscriberBorrowedSamples =
    codes "DoesNotSupportRequestedMinSubscriberBorrowedSamples"
reason_name reason.DoesNotSupportRequestedAmountOfPublishers = codes "DoesNotSupportRequestedAmountOfPublishers"
reason_name reason.DoesNotSupportRequestedAmountOfSubscribers = codes "DoesNotSupportRequestedAmountOfSubscribers"
reason_name reason.IncompatibleOverflowBehavior = codes "IncompatibleOverflowBehavior"
reason_name reason.SubscriberBufferMustBeLargerThanHistorySize = codes "SubscriberBufferMustBeLargerThanHistorySize"
reason_name reason.DoesNotSupportRequestedAmountOfClientRequestLoans =
    codes "DoesNotSupportRequestedAmountOfClientRequestLoans"
reason_name reason.DoesNotSupportRequestedAmountOfActiveRequestsPerClient =
    codes "DoesNotSupportRequestedAmountOfActiveRequestsPerClient"
reason_name reason.DoesNotSupportRequestedResponseBufferSize = codes "DoesNotSupportRequestedResponseBufferSize"
reason_name reason.DoesNotSupportRequestedAmountOfServers = codes "DoesNotSupportRequestedAmountOfServers"
reason_name reason.DoesNotSupportRequestedAmountOfClients = codes "DoesNotSupportRequestedAmountOfClients"
reason_name reason.DoesNotSupportRequestedAmountOfBorrowedResponsesPerPendingResponse =
    codes "DoesNotSupportRequestedAmountOfBorrowedResponsesPerPendingResponse"
reason_name reason.IncompatibleRequestType = codes "IncompatibleRequestType"
reason_name reason.IncompatibleResponseType = codes "IncompatibleResponseType"
reason_name reason.IncompatibleOverflowBehaviorForRequests = codes "IncompatibleOverflowBehaviorForRequests"
reason_name reason.IncompatibleOverflowBehaviorForResponses = codes "IncompatibleOverflowBehaviorForResponses"
reason_name reason.IncompatibleBehaviorForFireAndForgetRequests = codes "IncompatibleBehaviorForFireAndForgetRequests"

-- A dead node may be why: it was creating the service, was the last one to leave it, takes a place in it, or has
-- removed its segment and not yet its description.
abbrev pub may_be_a_dead_node : Reason → Bool
may_be_a_dead_node reason.ServiceInCorruptedState = true
may_be_a_dead_node reason.HangsInCreation = true
may_be_a_dead_node reason.IsBeingCreatedByAnotherInstance = true
may_be_a_dead_node reason.ExceedsMaxNumberOfNodes = true
may_be_a_dead_node reason.IsMarkedForDestruction = true
may_be_a_dead_node reason.SystemInFlux = true
may_be_a_dead_node _ = false

-- An open or create goes on to the next round after it: the service is gone or going, somebody else was faster, or what
-- was found may pass.
abbrev pub is_retried : Reason → Bool
is_retried reason.DoesNotExist = true
is_retried reason.ServiceInCorruptedState = true
is_retried reason.IsMarkedForDestruction = true
is_retried reason.AlreadyExists = true
is_retried reason.IsBeingCreatedByAnotherInstance = true
is_retried _ = false

-- ---- the reason of an error

abbrev pub event_open_reason : EventOpenError → Reason
event_open_reason opening.DoesNotExist = reason.DoesNotExist
event_open_reason opening.InsufficientPermissions = reason.InsufficientPermissions
event_open_reason opening.ServiceInCorruptedState = reason.ServiceInCorruptedState
event_open_reason opening.IncompatibleMessagingPattern = reason.IncompatibleMessagingPattern
event_open_reason opening.IncompatibleAttributes = reason.IncompatibleAttributes
event_open_reason opening.InternalFailure = reason.InternalFailure
event_open_reason opening.IncompatibleDeadline = reason.IncompatibleDeadline
event_open_reason opening.IncompatibleNotifierCreatedEvent = reason.IncompatibleNotifierCreatedEvent
event_open_reason opening.IncompatibleNotifierDroppedEvent = reason.IncompatibleNotifierDroppedEvent
event_open_reason opening.IncompatibleNotifierDeadEvent = reason.IncompatibleNotifierDeadEvent
event_open_reason opening.HangsInCreation = reason.HangsInCreation
event_open_reason opening.DoesNotSupportRequestedAmountOfNotifiers = reason.DoesNotSupportRequestedAmountOfNotifiers
event_open_reason opening.DoesNotSupportRequestedAmountOfListeners = reason.DoesNotSupportRequestedAmountOfListeners
event_open_reason opening.DoesNotSupportRequestedMaxEventId = reason.DoesNotSupportRequestedMaxEventId
event_open_reason opening.DoesNotSupportRequestedAmountOfNodes = reason.DoesNotSupportRequestedAmountOfNodes
event_open_reason opening.ExceedsMaxNumberOfNodes = reason.ExceedsMaxNumberOfNodes
event_open_reason opening.IsMarkedForDestruction = reason.IsMarkedForDestruction
event_open_reason opening.OutOfMemory = reason.OutOfMemory

abbrev pub event_create_reason : EventCreateError → Reason
event_create_reason creating.ServiceInCorruptedState = reason.ServiceInCorruptedState
event_create_reason creating.InternalFailure = reason.InternalFailure
event_create_reason creating.IsBeingCreatedByAnotherInstance = reason.IsBeingCreatedByAnotherInstance
event_create_reason creating.AlreadyExists = reason.AlreadyExists
event_create_reason creating.HangsInCreation = reason.HangsInCreation
event_create_reason creating.InsufficientPermissions = reason.InsufficientPermissions
event_create_reason creating.OutOfMemory = reason.OutOfMemory

abbrev pub event_open_or_create_reason : EventOpenOrCreateError → Reason
event_open_or_create_reason (event_either.EventOpenError error) = event_open_reason error
event_open_or_create_reason (event_either.EventCreateError error) = event_create_reason error
event_open_or_create_reason event_either.SystemInFlux = reason.SystemInFlux

abbrev pub publish_subscribe_open_reason : PublishSubscribeOpenError → Reason
publish_subscribe_open_reason subscribe_opening.DoesNotExist = reason.DoesNotExist
publish_subscribe_open_reason subscribe_opening.InternalFailure = reason.InternalFailure
publish_subscribe_open_reason subscribe_opening.IncompatibleTypes = reason.IncompatibleTypes
publish_subscribe_open_reason subscribe_opening.IncompatibleMessagingPattern = reason.IncompatibleMessagingPattern
publish_subscribe_open_reason subscribe_opening.IncompatibleAttributes = reason.IncompatibleAttributes
publish_subscribe_open_reason subscribe_opening.DoesNotSupportRequestedMinBufferSize =
    reason.DoesNotSupportRequestedMinBufferSize
publish_subscribe_open_reason subscribe_opening.DoesNotSupportRequestedMinHistorySize =
    reason.DoesNotSupportRequestedMinHistorySize
publish_subscribe_open_reason subscribe_opening.DoesNotSupportRequestedMinSubscriberBorrowedSamples =
    reason.DoesNotSupportRequestedMinSubscriberBorrowedSamples
publish_subscribe_open_reason subscribe_opening.DoesNotSupportRequestedAmountOfPublishers =
    reason.DoesNotSupportRequestedAmountOfPublishers
publish_subscribe_open_reason subscribe_opening.DoesNotSupportRequestedAmountOfSubscribers =
    reason.DoesNotSupportRequestedAmountOfSubscribers
publish_subscribe_open_reason subscribe_opening.DoesNotSupportRequestedAmountOfNodes =
    reason.DoesNotSupportRequestedAmountOfNodes
publish_subscribe_open_reason subscribe_opening.IncompatibleOverflowBehavior = reason.IncompatibleOverflowBehavior
publish_subscribe_open_reason subscribe_opening.InsufficientPermissions = reason.InsufficientPermissions
publish_subscribe_open_reason subscribe_opening.ServiceInCorruptedState = reason.ServiceInCorruptedState
publish_subscribe_open_reason subscribe_opening.HangsInCreation = reason.HangsInCreation
publish_subscribe_open_reason subscribe_opening.ExceedsMaxNumberOfNodes = reason.ExceedsMaxNumberOfNodes
publish_subscribe_open_reason subscribe_opening.IsMarkedForDestruction = reason.IsMarkedForDestruction
publish_subscribe_open_reason subscribe_opening.OutOfMemory = reason.OutOfMemory

abbrev pub publish_subscribe_create_reason : PublishSubscribeCreateError → Reason
publish_subscribe_create_reason subscribe_creating.ServiceInCorruptedState = reason.ServiceInCorruptedState
publish_subscribe_create_reason subscribe_creating.SubscriberBufferMustBeLargerThanHistorySize =
    reason.SubscriberBufferMustBeLargerThanHistorySize
publish_subscribe_create_reason subscribe_creating.AlreadyExists = reason.AlreadyExists
publish_subscribe_create_reason subscribe_creating.InsufficientPermissions = reason.InsufficientPermissions
publish_subscribe_create_reason subscribe_creating.InternalFailure = reason.InternalFailure
publish_subscribe_create_reason subscribe_creating.IsBeingCreatedByAnotherInstance =
    reason.IsBeingCreatedByAnotherInstance
publish_subscribe_create_reason subscribe_creating.HangsInCreation = reason.HangsInCreation
publish_subscribe_create_reason subscribe_creating.OutOfMemory = reason.OutOfMemory

abbrev pub publish_subscribe_open_or_create_reason : PublishSubscribeOpenOrCreateError → Reason
publish_subscribe_open_or_create_reason (subscribe_either.PublishSubscribeOpenError error) =
    publish_subscribe_open_reason error
publish_subscribe_open_or_create_reason (subscribe_either.PublishSubscribeCreateError error) =
    publish_subscribe_create_reason error
publish_subscribe_open_or_create_reason subscribe_either.SystemInFlux = reason.SystemInFlux

abbrev pub request_response_open_reason : RequestResponseOpenError → Reason
request_response_open_reason request_opening.DoesNotExist = reason.DoesNotExist
request_response_open_reason request_opening.DoesNotSupportRequestedAmountOfClientRequestLoans =
    reason.DoesNotSupportRequestedAmountOfClientRequestLoans
request_response_open_reason request_opening.DoesNotSupportRequestedAmountOfActiveRequestsPerClient =
    reason.DoesNotSupportRequestedAmountOfActiveRequestsPerClient
request_response_open_reason request_opening.DoesNotSupportRequestedResponseBufferSize =
    reason.DoesNotSupportRequestedResponseBufferSize
request_response_open_reason request_opening.DoesNotSupportRequestedAmountOfServers =
    reason.DoesNotSupportRequestedAmountOfServers
request_response_open_reason request_opening.DoesNotSupportRequestedAmountOfClients =
    reason.DoesNotSupportRequestedAmountOfClients
request_response_open_reason request_opening.DoesNotSupportRequestedAmountOfNodes =
    reason.DoesNotSupportRequestedAmountOfNodes
request_response_open_reason request_opening.DoesNotSupportRequestedAmountOfBorrowedResponsesPerPendingResponse =
    reason.DoesNotSupportRequestedAmountOfBorrowedResponsesPerPendingResponse
request_response_open_reason request_opening.ExceedsMaxNumberOfNodes = reason.ExceedsMaxNumberOfNodes
request_response_open_reason request_opening.HangsInCreation = reason.HangsInCreation
request_response_open_reason request_opening.IncompatibleRequestType = reason.IncompatibleRequestType
request_response_open_reason request_opening.IncompatibleResponseType = reason.IncompatibleResponseType
request_response_open_reason request_opening.IncompatibleAttributes = reason.IncompatibleAttributes
request_response_open_reason request_opening.IncompatibleMessagingPattern = reason.IncompatibleMessagingPattern
request_response_open_reason request_opening.IncompatibleOverflowBehaviorForRequests =
    reason.IncompatibleOverflowBehaviorForRequests
request_response_open_reason request_opening.IncompatibleOverflowBehaviorForResponses =
    reason.IncompatibleOverflowBehaviorForResponses
request_response_open_reason request_opening.IncompatibleBehaviorForFireAndForgetRequests =
    reason.IncompatibleBehaviorForFireAndForgetRequests
request_response_open_reason request_opening.InsufficientPermissions = reason.InsufficientPermissions
request_response_open_reason request_opening.InternalFailure = reason.InternalFailure
request_response_open_reason request_opening.IsMarkedForDestruction = reason.IsMarkedForDestruction
request_response_open_reason request_opening.ServiceInCorruptedState = reason.ServiceInCorruptedState
request_response_open_reason request_opening.OutOfMemory = reason.OutOfMemory

abbrev pub request_response_create_reason : RequestResponseCreateError → Reason
request_response_create_reason request_creating.AlreadyExists = reason.AlreadyExists
request_response_create_reason request_creating.InternalFailure = reason.InternalFailure
request_response_create_reason request_creating.IsBeingCreatedByAnotherInstance = reason.IsBeingCreatedByAnotherInstance
request_response_create_reason request_creating.InsufficientPermissions = reason.InsufficientPermissions
request_response_create_reason request_creating.HangsInCreation = reason.HangsInCreation
request_response_create_reason request_creating.ServiceInCorruptedState = reason.ServiceInCorruptedState
request_response_create_reason request_creating.OutOfMemory = reason.OutOfMemory

abbrev pub request_response_open_or_create_reason : RequestResponseOpenOrCreateError → Reason
request_response_open_or_create_reason (request_either.RequestResponseOpenError error) =
    request_response_open_reason error
request_response_open_or_create_reason (request_either.RequestResponseCreateError error) =
    request_response_create_reason error
request_response_open_or_create_reason request_either.SystemInFlux = reason.SystemInFlux

abbrev pub reason_of : Refusal → Reason
reason_of (refusal.EventOpen error) = event_open_reason error
reason_of (refusal.EventCreate error) = event_create_reason error
reason_of (refusal.EventOpenOrCreate error) = event_open_or_create_reason error
reason_of (refusal.PublishSubscribeOpen error) = publish_subscribe_open_reason error
reason_of (refusal.PublishSubscribeCreate error) = publish_subscribe_create_reason error
reason_of (refusal.PublishSubscribeOpenOrCreate error) = publish_subscribe_open_or_create_reason error
reason_of (refusal.RequestResponseOpen error) = request_response_open_reason error
reason_of (refusal.RequestResponseCreate error) = request_response_create_reason error
reason_of (refusal.RequestResponseOpenOrCreate error) = request_response_open_or_create_reason error

-- ---- the errors of each enum, in order

abbrev pub event_open_errors : List EventOpenError
event_open_errors =
    opening.DoesNotExist ∷ opening.InsufficientPermissions ∷ opening.ServiceInCorruptedState ∷
    opening.IncompatibleMessagingPattern ∷ opening.IncompatibleAttributes ∷ opening.InternalFailure ∷
    opening.IncompatibleDeadline ∷ opening.IncompatibleNotifierCreatedEvent ∷ opening.IncompatibleNotifierDroppedEvent ∷
    opening.IncompatibleNotifierDeadEvent ∷ opening.HangsInCreation ∷ opening.DoesNotSupportRequestedAmountOfNotifiers ∷
    opening.DoesNotSupportRequestedAmountOfListeners ∷ opening.DoesNotSupportRequestedMaxEventId ∷
    opening.DoesNotSupportRequestedAmountOfNodes ∷ opening.ExceedsMaxNumberOfNodes ∷ opening.IsMarkedForDestruction ∷
    opening.OutOfMemory ∷ []

abbrev pub event_create_errors : List EventCreateError
event_create_errors =
    creating.ServiceInCorruptedState ∷ creating.InternalFailure ∷ creating.IsBeingCreatedByAnotherInstance ∷
    creating.AlreadyExists ∷ creating.HangsInCreation ∷ creating.InsufficientPermissions ∷ creating.OutOfMemory ∷ []

abbrev pub publish_subscribe_open_errors : List PublishSubscribeOpenError
publish_subscribe_open_errors =
    subscribe_opening.DoesNotExist ∷ subscribe_opening.InternalFailure ∷ subscribe_opening.IncompatibleTypes ∷
    subscribe_opening.IncompatibleMessagingPattern ∷ subscribe_opening.IncompatibleAttributes ∷
    subscribe_opening.DoesNotSupportRequestedMinBufferSize ∷ subscribe_opening.DoesNotSupportRequestedMinHistorySize ∷
    subscribe_opening.DoesNotSupportRequestedMinSubscriberBorrowedSamples ∷
    subscribe_opening.DoesNotSupportRequestedAmountOfPublishers ∷
    subscribe_opening.DoesNotSupportRequestedAmountOfSubscribers ∷
    subscribe_opening.DoesNotSupportRequestedAmountOfNodes ∷ subscribe_opening.IncompatibleOverflowBehavior ∷
    subscribe_opening.InsufficientPermissions ∷ subscribe_opening.ServiceInCorruptedState ∷
    subscribe_opening.HangsInCreation ∷ subscribe_opening.ExceedsMaxNumberOfNodes ∷
    subscribe_opening.IsMarkedForDestruction ∷ subscribe_opening.OutOfMemory ∷ []

abbrev pub publish_subscribe_create_errors : List PublishSubscribeCreateError
publish_subscribe_create_errors =
    subscribe_creating.ServiceInCorruptedState ∷ subscribe_creating.SubscriberBufferMustBeLargerThanHistorySize ∷
    subscribe_creating.AlreadyExists ∷ subscribe_creating.InsufficientPermissions ∷ subscribe_creating.InternalFailure ∷
    subscribe_creating.IsBeingCreatedByAnotherInstance ∷ subscribe_creating.HangsInCreation ∷
    subscribe_creating.OutOfMemory ∷ []

abbrev pub request_response_open_errors : List RequestResponseOpenError
request_response_open_errors =
    request_opening.DoesNotExist ∷ request_opening.DoesNotSupportRequestedAmountOfClientRequestLoans ∷
    request_opening.DoesNotSupportRequestedAmountOfActiveRequestsPerClient ∷
    request_opening.DoesNotSupportRequestedResponseBufferSize ∷ request_opening.DoesNotSupportRequestedAmountOfServers ∷
    request_opening.DoesNotSupportRequestedAmountOfClients ∷ request_opening.DoesNotSupportRequestedAmountOfNodes ∷
    request_opening.DoesNotSupportRequestedAmountOfBorrowedResponsesPerPendingResponse ∷
    request_opening.ExceedsMaxNumberOfNodes ∷ request_opening.HangsInCreation ∷
    request_opening.IncompatibleRequestType ∷ request_opening.IncompatibleResponseType ∷
    request_opening.IncompatibleAttributes ∷ request_opening.IncompatibleMessagingPattern ∷
    request_opening.IncompatibleOverflowBehaviorForRequests ∷ request_opening.IncompatibleOverflowBehaviorForResponses ∷
    request_opening.IncompatibleBehaviorForFireAndForgetRequests ∷ request_opening.InsufficientPermissions ∷
    request_opening.InternalFailure ∷ request_opening.IsMarkedForDestruction ∷ request_opening.ServiceInCorruptedState ∷
    request_opening.OutOfMemory ∷ []

abbrev pub request_response_create_errors : List RequestResponseCreateError
request_response_create_errors =
    request_creating.AlreadyExists ∷ request_creating.InternalFailure ∷
    request_creating.IsBeingCreatedByAnotherInstance ∷ request_creating.InsufficientPermissions ∷
    request_creating.HangsInCreation ∷ request_creating.ServiceInCorruptedState ∷ request_creating.OutOfMemory ∷ []
