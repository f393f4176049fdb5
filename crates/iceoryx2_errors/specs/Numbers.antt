-- The number of each refusal: a thousand for the enum of the call, and the place in the enum of the error, from 1; an
-- error of the create of an open or create has 500 more. Numbers are never used again, so an enum grows at its end.
use Rattle.std.specs.Prelude.{ℕ, ◌+◌, ◌==◌, Bool, List, [], ◌∷◌, ◌++◌, bytes_eq, if◌then◌else◌, map, Option}
use Rattle.std.specs.List.{find}
use Rattle.iceoryx2_errors.specs.declared.refusal.Reason.{Reason}
use Rattle.iceoryx2_errors.specs.declared.refusal.Refusal.{Refusal}
use Rattle.iceoryx2_errors.specs.declared.refusal.Refusal.TheVariants as refusal
use Rattle.iceoryx2_errors.specs.declared.error.events.EventOpenError.{EventOpenError}
use Rattle.iceoryx2_errors.specs.declared.error.events.EventCreateError.{EventCreateError}
use Rattle.iceoryx2_errors.specs.declared.error.events.EventOpenOrCreateError.TheVariants as event_either
use Rattle.iceoryx2_errors.specs.declared.error.publish_subscribe.PublishSubscribeOpenError.{PublishSubscribeOpenError}
use Rattle.iceoryx2_errors.specs.declared.error.publish_subscribe.PublishSubscribeCreateError.{PublishSubscribeCreateError}
use Rattle.iceoryx2_errors.specs.declared.error.publish_subscribe.PublishSubscribeOpenOrCreateError.TheVariants as subscribe_either
use Rattle.iceoryx2_errors.specs.declared.error.request_response.RequestResponseOpenError.{RequestResponseOpenError}
use Rattle.iceoryx2_errors.specs.declared.error.request_response.RequestResponseCreateError.{RequestResponseCreateError}
use Rattle.iceoryx2_errors.specs.declared.error.request_response.RequestResponseOpenOrCreateError.TheVariants as request_either
use Rattle.iceoryx2_errors.specs.Reasons.{reason_name, event_open_errors, event_create_errors}
use Rattle.iceoryx2_errors.specs.Reasons.{publish_subscribe_open_errors, publish_subscribe_create_errors}
use Rattle.iceoryx2_errors.specs.Reasons.{request_response_open_errors, request_response_create_errors}
use Rattle.iceoryx2_errors.specs.Reasons.{event_open_reason, event_create_reason}
use Rattle.iceoryx2_errors.specs.Reasons.{publish_subscribe_open_reason, publish_subscribe_create_reason}
use Rattle.iceoryx2_errors.specs.Reasons.{request_response_open_reason, request_response_create_reason}

-- ---- the number of a refusal

-- where a reason stands among the reasons of an enum, from 1
abbrev place : List Reason → Reason → ℕ
place [] reason = 1
place (r ∷ rs) reason = if bytes_eq (reason_name r) (reason_name reason) then 1 else 1 + place rs reason

abbrev event_open_place : EventOpenError → ℕ
event_open_place error = place (map event_open_reason event_open_errors) (event_open_reason error)

abbrev event_create_place : EventCreateError → ℕ
event_create_place error = place (map event_create_reason event_create_errors) (event_create_reason error)

abbrev publish_subscribe_open_place : PublishSubscribeOpenError → ℕ
publish_subscribe_open_place error =
    place (map publish_subscribe_open_reason publish_subscribe_open_errors) (publish_subscribe_open_reason error)

abbrev publish_subscribe_create_place : PublishSubscribeCreateError → ℕ
publish_subscribe_create_place error =
    place (map publish_subscribe_create_reason publish_subscribe_create_errors) (publish_subscribe_create_reason error)

abbrev request_response_open_place : RequestResponseOpenError → ℕ
request_response_open_place error =
    place (map request_response_open_reason request_response_open_errors) (request_response_open_reason error)

abbrev request_response_create_place : RequestResponseCreateError → ℕ
request_response_create_place error =
    place (map request_response_create_reason request_response_create_errors) (request_response_create_reason error)

abbrev pub number_of : Refusal → ℕ
number_of (refusal.EventOpen error) = 1000 + event_open_place error
number_of (refusal.EventCreate error) = 2000 + event_create_place error
number_of (refusal.EventOpenOrCreate (event_either.EventOpenError error)) = 3000 + event_open_place error
number_of (refusal.EventOpenOrCreate (event_either.EventCreateError error)) = 3500 + event_create_place error
number_of (refusal.EventOpenOrCreate event_either.SystemInFlux) = 3999
number_of (refusal.PublishSubscribeOpen error) = 4000 + publish_subscribe_open_place error
number_of (refusal.PublishSubscribeCreate error) = 5000 + publish_subscribe_create_place error
number_of (refusal.PublishSubscribeOpenOrCreate (subscribe_either.PublishSubscribeOpenError error)) =
    6000 + publish_subscribe_open_place error
number_of (refusal.PublishSubscribeOpenOrCreate (subscribe_either.PublishSubscribeCreateError error)) =
    6500 + publish_subscribe_create_place error
number_of (refusal.PublishSubscribeOpenOrCreate subscribe_either.SystemInFlux) = 6999
number_of (refusal.RequestResponseOpen error) = 7000 + request_response_open_place error
number_of (refusal.RequestResponseCreate error) = 8000 + request_response_create_place error
number_of (refusal.RequestResponseOpenOrCreate (request_either.RequestResponseOpenError error)) =
    9000 + request_response_open_place error
number_of (refusal.RequestResponseOpenOrCreate (request_either.RequestResponseCreateError error)) =
    9500 + request_response_create_place error
number_of (refusal.RequestResponseOpenOrCreate request_either.SystemInFlux) = 9999

-- ---- the refusal of a number

abbrev pub refusals : List Refusal
refusals =
    map refusal.EventOpen event_open_errors ++
    map refusal.EventCreate event_create_errors ++
    map (λ error. refusal.EventOpenOrCreate (event_either.EventOpenError error)) event_open_errors ++
    map (λ error. refusal.EventOpenOrCreate (event_either.EventCreateError error)) event_create_errors ++
    (refusal.EventOpenOrCreate event_either.SystemInFlux ∷ []) ++
    map refusal.PublishSubscribeOpen publish_subscribe_open_errors ++
    map refusal.PublishSubscribeCreate publish_subscribe_create_errors ++
    map (λ error. refusal.PublishSubscribeOpenOrCreate (subscribe_either.PublishSubscribeOpenError error))
    publish_subscribe_open_errors ++
    map (λ error. refusal.PublishSubscribeOpenOrCreate (subscribe_either.PublishSubscribeCreateError error))
    publish_subscribe_create_errors ++
    (refusal.PublishSubscribeOpenOrCreate subscribe_either.SystemInFlux ∷ []) ++
    map refusal.RequestResponseOpen request_response_open_errors ++
    map refusal.RequestResponseCreate request_response_create_errors ++
    map (λ error. refusal.RequestResponseOpenOrCreate (request_either.RequestResponseOpenError error))
    request_response_open_errors ++
    map (λ error. refusal.RequestResponseOpenOrCreate (request_either.RequestResponseCreateError error))
    request_response_create_errors ++
    (refusal.RequestResponseOpenOrCreate request_either.SystemInFlux ∷ [])

abbrev pub has_number : ℕ → Refusal → Bool
has_number number refusal = number_of refusal == number

-- the one that has it
abbrev pub numbered : ℕ → Option Refusal
numbered number = find (has_number number) refusals
