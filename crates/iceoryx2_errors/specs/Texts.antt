-- The texts of errors: the name of the enum and that of the reason.
use Rattle.std.specs.Prelude.{ℕ, List, ◌++◌, codes}
use Rattle.iceoryx2_errors.specs.declared.refusal.Refusal.{Refusal}
use Rattle.iceoryx2_errors.specs.declared.refusal.Refusal.TheVariants as refusal
use Rattle.iceoryx2_errors.specs.declared.error.events.EventOpenOrCreateError.{EventOpenOrCreateError}
use Rattle.iceoryx2_errors.specs.declared.error.events.EventOpenOrCreateError.TheVariants as event_either
use Rattle.iceoryx2_errors.specs.declared.error.publish_subscribe.PublishSubscribeOpenOrCreateError.{PublishSubscribeOpenOrCreateError}
use Rattle.iceoryx2_errors.specs.declared.error.publish_subscribe.PublishSubscribeOpenOrCreateError.TheVariants as subscribe_either
use Rattle.iceoryx2_errors.specs.declared.error.request_response.RequestResponseOpenOrCreateError.{RequestResponseOpenOrCreateError}
use Rattle.iceoryx2_errors.specs.declared.error.request_response.RequestResponseOpenOrCreateError.TheVariants as request_either
use Rattle.iceoryx2_errors.specs.declared.error.CloseError.{CloseError}
use Rattle.iceoryx2_errors.specs.declared.error.CloseError.TheVariants as closing
use Rattle.iceoryx2_errors.specs.Reasons.{reason_name, event_open_reason, event_create_reason}
use Rattle.iceoryx2_errors.specs.Reasons.{publish_subscribe_open_reason, publish_subscribe_create_reason}
use Rattle.iceoryx2_errors.specs.Reasons.{request_response_open_reason, request_response_create_reason}

-- of an open or create an error of the one or the other is followed by its own name

abbrev pub event_open_or_create_name : EventOpenOrCreateError → List ℕ
event_open_or_create_name (event_either.EventOpenError error) =
    codes "EventOpenError(" ++ reason_name (event_open_reason error) ++ codes ")"
event_open_or_create_name (event_either.EventCreateError error) =
    codes "EventCreateError(" ++ reason_name (event_create_reason error) ++ codes ")"
event_open_or_create_name event_either.SystemInFlux = codes "SystemInFlux"

abbrev pub publish_subscribe_open_or_create_name : PublishSubscribeOpenOrCreateError → List ℕ
publish_subscribe_open_or_create_name (subscribe_either.PublishSubscribeOpenError error) =
    codes "PublishSubscribeOpenError(" ++ reason_name (publish_subscribe_open_reason error) ++ codes ")"
publish_subscribe_open_or_create_name (subscribe_either.PublishSubscribeCreateError error) =
    codes "PublishSubscribeCreateError(" ++ reason_name (publish_subscribe_create_reason error) ++ codes ")"
publish_subscribe_open_or_create_name subscribe_either.SystemInFlux = codes "SystemInFlux"

abbrev pub request_response_open_or_create_name : RequestResponseOpenOrCreateError → List ℕ
request_response_open_or_create_name (request_either.RequestResponseOpenError error) =
    codes "RequestResponseOpenError(" ++ reason_name (request_response_open_reason error) ++ codes ")"
request_response_open_or_create_name (request_either.RequestResponseCreateError error) =
    codes "RequestResponseCreateError(" ++ reason_name (request_response_create_reason error) ++ codes ")"
request_response_open_or_create_name request_either.SystemInFlux = codes "SystemInFlux"

abbrev pub text_of : Refusal → List ℕ
text_of (refusal.EventOpen error) = codes "EventOpenError::" ++ reason_name (event_open_reason error)
text_of (refusal.EventCreate error) = codes "EventCreateError::" ++ reason_name (event_create_reason error)
text_of (refusal.EventOpenOrCreate error) = codes "EventOpenOrCreateError::" ++ event_open_or_create_name error
text_of (refusal.PublishSubscribeOpen error) =
    codes "PublishSubscribeOpenError::" ++ reason_name (publish_subscribe_open_reason error)
text_of (refusal.PublishSubscribeCreate error) =
    codes "PublishSubscribeCreateError::" ++ reason_name (publish_subscribe_create_reason error)
text_of (refusal.PublishSubscribeOpenOrCreate error) =
    codes "PublishSubscribeOpenOrCreateError::" ++ publish_subscribe_open_or_create_name error
text_of (refusal.RequestResponseOpen error) =
    codes "RequestResponseOpenError::" ++ reason_name (request_response_open_reason error)
text_of (refusal.RequestResponseCreate error) =
    codes "RequestResponseCreateError::" ++ reason_name (request_response_create_reason error)
text_of (refusal.RequestResponseOpenOrCreate error) =
    codes "RequestResponseOpenOrCreateError::" ++ request_response_open_or_create_name error

-- of one that hands something back too
abbrev pub close_error_name : {F : Type 0} → CloseError F → List ℕ
close_error_name (closing.NotHere handed_back) = codes "NotHere"
close_error_name closing.TagNotRemoved = codes "TagNotRemoved"
close_error_name closing.SegmentNotRemoved = codes "SegmentNotRemoved"
close_error_name closing.DescriptionNotRemoved = codes "DescriptionNotRemoved"
