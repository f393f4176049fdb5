-- What a stronger open of a pattern takes, a weaker one takes too.
use Rattle.std.proofs.Common.{◌≡◌, true, Ok, None, refl}
use Rattle.iceoryx2_attribute.specs.Requirements.{Requirements}
use Rattle.iceoryx2_description.specs.Description.{Description}
use Rattle.iceoryx2_description.specs.declared.description.MessagingPattern.{MessagingPattern}
use Rattle.iceoryx2_description.specs.declared.description.MessagingPattern.TheVariants as existing
use Rattle.iceoryx2_rounds.specs.Verdict.{verdict}
use Rattle.iceoryx2_rounds.specs.Adjusting.{Accepts}
use Rattle.iceoryx2_rounds.proofs.Rows.{no_more}
use Rattle.iceoryx2_event_builder.specs.Event as event
use Rattle.iceoryx2_event_builder.specs.declared.event.demand.EventDemand.{EventDemand}
use Rattle.iceoryx2_publish_subscribe_builder.specs.PublishSubscribe as publish_subscribe
use Rattle.iceoryx2_publish_subscribe_builder.specs.declared.publish_subscribe.demand.PublishSubscribeDemand.{PublishSubscribeDemand}
use Rattle.iceoryx2_request_response_builder.specs.RequestResponse as request_response
use Rattle.iceoryx2_request_response_builder.specs.declared.request_response.demand.RequestResponseDemand.{RequestResponseDemand}
use Rattle.iceoryx2_types.specs.Types.{Message, IsCompatible, compatible}
use Rattle.iceoryx2_types.proofs.Compatible.{decided, transitive}
use Rattle.iceoryx2_builder.specs.Weaker.{AreSomeOf, IsWeakerEvent, IsWeakerPublishSubscribe, IsWeakerRequestResponse}
use Rattle.iceoryx2_builder.proofs.Weaker.{accepts_less, passed}

fits_further : (own other there : Message) → IsCompatible own other → compatible other there ≡ true → compatible own there ≡ true
fits_further own other there fits h =
    (decided own there).1 (transitive own other there fits ((decided other there).0 h))

-- ---- events

events_too : (weaker stronger : EventDemand) (there : MessagingPattern) → IsWeakerEvent weaker stronger
    → verdict (event.setting_clauses stronger there) ≡ Ok tt → verdict (event.setting_clauses weaker there) ≡ Ok tt
events_too weaker stronger (existing.Event there) is h =
    no_more (event.setting_rows weaker.settings weaker.marks there) (event.setting_rows stronger.settings stronger.marks there) (is there) h
events_too weaker stronger _ is h = h

pub weaker_event_accepts : (weaker stronger : EventDemand) (some all : Requirements) (d : Description)
    → IsWeakerEvent weaker stronger → AreSomeOf some all
    → Accepts (event.event_opening stronger all) d → Accepts (event.event_opening weaker some) d
weaker_event_accepts weaker stronger some all d is are accepts =
    accepts_less (event.event_meaning weaker) (event.event_meaning stronger) some all d are (λ h. h)
    (events_too weaker stronger d.pattern is) accepts

-- ---- publish-subscribe

subscribed_too : (weaker stronger : PublishSubscribeDemand) (there : MessagingPattern) → IsWeakerPublishSubscribe weaker stronger
    → verdict (publish_subscribe.setting_clauses stronger there) ≡ Ok tt → verdict (publish_subscribe.setting_clauses weaker there) ≡ Ok tt
subscribed_too weaker stronger (existing.PublishSubscribe there) is h = no_more
    (publish_subscribe.setting_rows weaker.settings weaker.marks there) (publish_subscribe.setting_rows stronger.settings stronger.marks there) (is there) h
subscribed_too weaker stronger _ is h = h

message_too : (message other : Message) (there : MessagingPattern) → IsCompatible message other
    → publish_subscribe.misfit_of other there ≡ None → publish_subscribe.misfit_of message there ≡ None
message_too message other (existing.PublishSubscribe there) fits h =
    rw (fits_further message other there.message_type_details fits (passed _ _ _ h).0) refl
message_too message other _ fits h = h

pub weaker_publish_subscribe_accepts : (weaker stronger : PublishSubscribeDemand) (message other : Message) (some all : Requirements)
    (d : Description) → IsWeakerPublishSubscribe weaker stronger → IsCompatible message other → AreSomeOf some all
    → Accepts (publish_subscribe.publish_subscribe_opening stronger other all) d
    → Accepts (publish_subscribe.publish_subscribe_opening weaker message some) d
weaker_publish_subscribe_accepts weaker stronger message other some all d is fits are accepts =
    accepts_less (publish_subscribe.publish_subscribe_meaning weaker message) (publish_subscribe.publish_subscribe_meaning stronger other)
    some all d are (message_too message other d.pattern fits) (subscribed_too weaker stronger d.pattern is) accepts

-- ---- request-response

answered_too : (weaker stronger : RequestResponseDemand) (there : MessagingPattern) → IsWeakerRequestResponse weaker stronger
    → verdict (request_response.setting_clauses stronger there) ≡ Ok tt → verdict (request_response.setting_clauses weaker there) ≡ Ok tt
answered_too weaker stronger (existing.RequestResponse there) is h = no_more
    (request_response.setting_rows weaker.settings weaker.marks there) (request_response.setting_rows stronger.settings stronger.marks there) (is there) h
answered_too weaker stronger _ is h = h

messages_too : (request response other_request other_response : Message) (there : MessagingPattern)
    → IsCompatible request other_request → IsCompatible response other_response
    → request_response.misfit_of other_request other_response there ≡ None → request_response.misfit_of request response there ≡ None
messages_too request response other_request other_response (existing.RequestResponse there) fits responds h =
    let found = passed _ _ _ h in
    rw (fits_further request other_request there.request_message_type_details fits found.0)
    (rw (fits_further response other_response there.response_message_type_details responds (passed _ _ _ found.1).0) refl)
messages_too request response other_request other_response _ fits responds h = h

pub weaker_request_response_accepts : (weaker stronger : RequestResponseDemand) (request response other_request other_response : Message)
    (some all : Requirements) (d : Description) → IsWeakerRequestResponse weaker stronger
    → IsCompatible request other_request → IsCompatible response other_response → AreSomeOf some all
    → Accepts (request_response.request_response_opening stronger other_request other_response all) d
    → Accepts (request_response.request_response_opening weaker request response some) d
weaker_request_response_accepts weaker stronger request response other_request other_response some all d is fits responds are accepts =
    accepts_less (request_response.request_response_meaning weaker request response)
    (request_response.request_response_meaning stronger other_request other_response) some all d are
    (messages_too request response other_request other_response d.pattern fits responds) (answered_too weaker stronger d.pattern is) accepts
