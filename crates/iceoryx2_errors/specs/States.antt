-- What the public state of a look becomes, as an open error and as a create error: one table an enum. A service that
-- doesn't fit is there, so as a create error it is AlreadyExists.
use Rattle.iceoryx2_errors.specs.declared.error.ServiceState.{ServiceState}
use Rattle.iceoryx2_errors.specs.declared.error.ServiceState.TheVariants as state
use Rattle.iceoryx2_errors.specs.declared.error.events.EventOpenError.{EventOpenError}
use Rattle.iceoryx2_errors.specs.declared.error.events.EventOpenError.TheVariants as opening
use Rattle.iceoryx2_errors.specs.declared.error.events.EventCreateError.{EventCreateError}
use Rattle.iceoryx2_errors.specs.declared.error.events.EventCreateError.TheVariants as creating
use Rattle.iceoryx2_errors.specs.declared.error.publish_subscribe.ServiceAvailabilityState.{ServiceAvailabilityState as PublishSubscribeState}
use Rattle.iceoryx2_errors.specs.declared.error.publish_subscribe.ServiceAvailabilityState.TheVariants as subscribe_look
use Rattle.iceoryx2_errors.specs.declared.error.publish_subscribe.PublishSubscribeOpenError.{PublishSubscribeOpenError}
use Rattle.iceoryx2_errors.specs.declared.error.publish_subscribe.PublishSubscribeOpenError.TheVariants as subscribe_opening
use Rattle.iceoryx2_errors.specs.declared.error.publish_subscribe.PublishSubscribeCreateError.{PublishSubscribeCreateError}
use Rattle.iceoryx2_errors.specs.declared.error.publish_subscribe.PublishSubscribeCreateError.TheVariants as subscribe_creating
use Rattle.iceoryx2_errors.specs.declared.error.request_response.ServiceAvailabilityState.{ServiceAvailabilityState as RequestResponseState}
use Rattle.iceoryx2_errors.specs.declared.error.request_response.ServiceAvailabilityState.TheVariants as request_look
use Rattle.iceoryx2_errors.specs.declared.error.request_response.RequestResponseOpenError.{RequestResponseOpenError}
use Rattle.iceoryx2_errors.specs.declared.error.request_response.RequestResponseOpenError.TheVariants as request_opening
use Rattle.iceoryx2_errors.specs.declared.error.request_response.RequestResponseCreateError.{RequestResponseCreateError}
use Rattle.iceoryx2_errors.specs.declared.error.request_response.RequestResponseCreateError.TheVariants as request_creating

-- of events

abbrev pub event_open_error_of_state : ServiceState → EventOpenError
event_open_error_of_state state.IncompatibleMessagingPattern = opening.IncompatibleMessagingPattern
event_open_error_of_state state.InsufficientPermissions = opening.InsufficientPermissions
event_open_error_of_state state.HangsInCreation = opening.HangsInCreation
event_open_error_of_state state.Corrupted = opening.ServiceInCorruptedState
event_open_error_of_state state.OutOfMemory = opening.OutOfMemory

abbrev pub event_create_error_of_state : ServiceState → EventCreateError
event_create_error_of_state state.IncompatibleMessagingPattern = creating.AlreadyExists
event_create_error_of_state state.InsufficientPermissions = creating.InsufficientPermissions
event_create_error_of_state state.HangsInCreation = creating.HangsInCreation
event_create_error_of_state state.Corrupted = creating.ServiceInCorruptedState
event_create_error_of_state state.OutOfMemory = creating.OutOfMemory

-- of publish-subscribe

abbrev pub publish_subscribe_open_error_of_state : PublishSubscribeState → PublishSubscribeOpenError
publish_subscribe_open_error_of_state (subscribe_look.ServiceState state.IncompatibleMessagingPattern) =
    subscribe_opening.IncompatibleMessagingPattern
publish_subscribe_open_error_of_state (subscribe_look.ServiceState state.InsufficientPermissions) =
    subscribe_opening.InsufficientPermissions
publish_subscribe_open_error_of_state (subscribe_look.ServiceState state.HangsInCreation) =
    subscribe_opening.HangsInCreation
publish_subscribe_open_error_of_state (subscribe_look.ServiceState state.Corrupted) =
    subscribe_opening.ServiceInCorruptedState
publish_subscribe_open_error_of_state (subscribe_look.ServiceState state.OutOfMemory) = subscribe_opening.OutOfMemory
publish_subscribe_open_error_of_state subscribe_look.IncompatibleTypes = subscribe_opening.IncompatibleTypes

abbrev pub publish_subscribe_create_error_of_state : PublishSubscribeState → PublishSubscribeCreateError
publish_subscribe_create_error_of_state (subscribe_look.ServiceState state.IncompatibleMessagingPattern) =
    subscribe_creating.AlreadyExists
publish_subscribe_create_error_of_state (subscribe_look.ServiceState state.InsufficientPermissions) =
    subscribe_creating.InsufficientPermissions
publish_subscribe_create_error_of_state (subscribe_look.ServiceState state.HangsInCreation) =
    subscribe_creating.HangsInCreation
publish_subscribe_create_error_of_state (subscribe_look.ServiceState state.Corrupted) =
    subscribe_creating.ServiceInCorruptedState
publish_subscribe_create_error_of_state (subscribe_look.ServiceState state.OutOfMemory) = subscribe_creating.OutOfMemory
publish_subscribe_create_error_of_state subscribe_look.IncompatibleTypes = subscribe_creating.AlreadyExists

-- of request-response

abbrev pub request_response_open_error_of_state : RequestResponseState → RequestResponseOpenError
request_response_open_error_of_state (request_look.ServiceState state.IncompatibleMessagingPattern) =
    request_opening.IncompatibleMessagingPattern
request_response_open_error_of_state (request_look.ServiceState state.InsufficientPermissions) =
    request_opening.InsufficientPermissions
request_response_open_error_of_state (request_look.ServiceState state.HangsInCreation) = request_opening.HangsInCreation
request_response_open_error_of_state (request_look.ServiceState state.Corrupted) =
    request_opening.ServiceInCorruptedState
request_response_open_error_of_state (request_look.ServiceState state.OutOfMemory) = request_opening.OutOfMemory
request_response_open_error_of_state request_look.IncompatibleRequestType = request_opening.IncompatibleRequestType
request_response_open_error_of_state request_look.IncompatibleResponseType = request_opening.IncompatibleResponseType

abbrev pub request_response_create_error_of_state : RequestResponseState → RequestResponseCreateError
request_response_create_error_of_state (request_look.ServiceState state.IncompatibleMessagingPattern) =
    request_creating.AlreadyExists
request_response_create_error_of_state (request_look.ServiceState state.InsufficientPermissions) =
    request_creating.InsufficientPermissions
request_response_create_error_of_state (request_look.ServiceState state.HangsInCreation) =
    request_creating.HangsInCreation
request_response_create_error_of_state (request_look.ServiceState state.Corrupted) =
    request_creating.ServiceInCorruptedState
request_response_create_error_of_state (request_look.ServiceState state.OutOfMemory) = request_creating.OutOfMemory
request_response_create_error_of_state request_look.IncompatibleRequestType = request_creating.AlreadyExists
request_response_create_error_of_state request_look.IncompatibleResponseType = request_creating.AlreadyExists
