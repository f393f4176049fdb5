-- One requirement that asks no more than another of services of the same pattern.
use Rattle.std.specs.Prelude.{All, Contains}
use Rattle.iceoryx2_attribute.specs.Requirements.{Requirements}
use Rattle.iceoryx2_rounds.specs.Rows.{IsWeakerBy}
use Rattle.iceoryx2_event_builder.specs.Event as event
use Rattle.iceoryx2_event_builder.specs.declared.event.demand.EventDemand.{EventDemand}
use Rattle.iceoryx2_publish_subscribe_builder.specs.PublishSubscribe as publish_subscribe
use Rattle.iceoryx2_publish_subscribe_builder.specs.declared.publish_subscribe.demand.PublishSubscribeDemand.{PublishSubscribeDemand}
use Rattle.iceoryx2_request_response_builder.specs.RequestResponse as request_response
use Rattle.iceoryx2_request_response_builder.specs.declared.request_response.demand.RequestResponseDemand.{RequestResponseDemand}

-- required pairs and keys, each one of the other's
pub record AreSomeOf (required other : Requirements) : Type 0 where
  pub pairs : All (Contains other.pairs) required.pairs
  pub keys : All (Contains other.keys) required.keys

-- Each setting that is asked for is asked for by the stronger one too, with a number at least as great or with the
-- same value.
abbrev pub IsWeakerEvent : (weaker stronger : EventDemand) → Type 0
IsWeakerEvent weaker stronger = IsWeakerBy (λ d. event.setting_rows d.settings d.marks) weaker stronger

abbrev pub IsWeakerPublishSubscribe : (weaker stronger : PublishSubscribeDemand) → Type 0
IsWeakerPublishSubscribe weaker stronger =
    IsWeakerBy (λ d. publish_subscribe.setting_rows d.settings d.marks) weaker stronger

abbrev pub IsWeakerRequestResponse : (weaker stronger : RequestResponseDemand) → Type 0
IsWeakerRequestResponse weaker stronger =
    IsWeakerBy (λ d. request_response.setting_rows d.settings d.marks) weaker stronger
