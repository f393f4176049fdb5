-- After which errors an open or create goes on, error by error.
use Rattle.std.proofs.Common.{◌≡◌, refl}
use Rattle.iceoryx2_errors.specs.declared.error.events.EventOpenError.{EventOpenError}
use Rattle.iceoryx2_errors.specs.declared.error.events.EventOpenError.TheVariants as opening
use Rattle.iceoryx2_errors.specs.declared.error.events.EventCreateError.{EventCreateError}
use Rattle.iceoryx2_errors.specs.declared.error.events.EventCreateError.TheVariants as creating
use Rattle.iceoryx2_event_builder.specs.Event.{event_retried}
use Rattle.iceoryx2_errors.specs.declared.error.publish_subscribe.PublishSubscribeOpenError.{PublishSubscribeOpenError}
use Rattle.iceoryx2_errors.specs.declared.error.publish_subscribe.PublishSubscribeOpenError.TheVariants as subscribe_opening
use Rattle.iceoryx2_errors.specs.declared.error.publish_subscribe.PublishSubscribeCreateError.{PublishSubscribeCreateError}
use Rattle.iceoryx2_errors.specs.declared.error.publish_subscribe.PublishSubscribeCreateError.TheVariants as subscribe_creating
use Rattle.iceoryx2_publish_subscribe_builder.specs.PublishSubscribe.{publish_subscribe_retried}
use Rattle.iceoryx2_errors.specs.declared.error.request_response.RequestResponseOpenError.{RequestResponseOpenError}
use Rattle.iceoryx2_errors.specs.declared.error.request_response.RequestResponseOpenError.TheVariants as request_opening
use Rattle.iceoryx2_errors.specs.declared.error.request_response.RequestResponseCreateError.{RequestResponseCreateError}
use Rattle.iceoryx2_errors.specs.declared.error.request_response.RequestResponseCreateError.TheVariants as request_creating
use Rattle.iceoryx2_request_response_builder.specs.RequestResponse.{request_response_retried}
use Rattle.iceoryx2_errors.specs.Reasons.{is_retried, event_open_reason, event_create_reason}
use Rattle.iceoryx2_errors.specs.Reasons.{publish_subscribe_open_reason, publish_subscribe_create_reason}
use Rattle.iceoryx2_errors.specs.Reasons.{request_response_open_reason, request_response_create_reason}

pub event_opens : (error : EventOpenError) → event_retried.of_open error ≡ is_retried (event_open_reason error)
event_opens opening.DoesNotExist = refl
event_opens error = refl

pub event_creates : (error : EventCreateError) → event_retried.of_create error ≡ is_retried (event_create_reason error)
event_creates creating.ServiceInCorruptedState = refl
event_creates error = refl

pub publish_subscribe_opens : (error : PublishSubscribeOpenError) → publish_subscribe_retried.of_open error ≡ is_retried (publish_subscribe_open_reason error)
publish_subscribe_opens subscribe_opening.DoesNotExist = refl
publish_subscribe_opens error = refl

pub publish_subscribe_creates : (error : PublishSubscribeCreateError) → publish_subscribe_retried.of_create error ≡ is_retried (publish_subscribe_create_reason error)
publish_subscribe_creates subscribe_creating.ServiceInCorruptedState = refl
publish_subscribe_creates error = refl

pub request_response_opens : (error : RequestResponseOpenError) → request_response_retried.of_open error ≡ is_retried (request_response_open_reason error)
request_response_opens request_opening.DoesNotExist = refl
request_response_opens error = refl

pub request_response_creates : (error : RequestResponseCreateError) → request_response_retried.of_create error ≡ is_retried (request_response_create_reason error)
request_response_creates request_creating.AlreadyExists = refl
request_response_creates error = refl
