-- What a create adjusts only raises minima.
use Rattle.std.proofs.Common.{◌≡◌, ◌≤◌, ℕ, zero, suc, refl, arith, rules}
use Rattle.std.proofs.lemmas.Bool.Decides.{nat_tests}
use Rattle.std.proofs.lemmas.List.Elements.{All-contains_itself}
use Rattle.iceoryx2_attribute.specs.Requirements.{Requirements}
use Rattle.iceoryx2_types.proofs.Compatible.{reflexive}
use Rattle.iceoryx2_rounds.specs.Adjusting.{OnlyRaises}
use Rattle.iceoryx2_rounds.specs.Zeros.{at_least_one}
use Rattle.iceoryx2_event_builder.specs.Event.{event_meaning, event_adjusted}
use Rattle.iceoryx2_event_builder.specs.declared.event.demand.EventDemand.{EventDemand}
use Rattle.iceoryx2_publish_subscribe_builder.specs.PublishSubscribe as publish_subscribe
use Rattle.iceoryx2_publish_subscribe_builder.specs.declared.publish_subscribe.demand.PublishSubscribeDemand.{PublishSubscribeDemand}
use Rattle.iceoryx2_request_response_builder.specs.RequestResponse as request_response
use Rattle.iceoryx2_request_response_builder.specs.declared.request_response.demand.RequestResponseDemand.{RequestResponseDemand}
use Rattle.iceoryx2_builder.specs.Weaker.{AreSomeOf, IsWeakerEvent, IsWeakerPublishSubscribe, IsWeakerRequestResponse}
use Rattle.iceoryx2_builder.proofs.Accepts.{weaker_event_accepts, weaker_publish_subscribe_accepts, weaker_request_response_accepts}

raises : (n : ℕ) → n ≤ at_least_one n
raises zero = omega arith
raises (suc n) = grind (arith, nat_tests)

twice : (n : ℕ) → at_least_one (at_least_one n) ≡ at_least_one n
twice zero = refl
twice (suc n) = let e : at_least_one (suc n) ≡ suc n = grind (arith, nat_tests) in rw e e

stays : (n : ℕ) → n ≤ n
stays n = omega arith

-- the same pairs and keys
all_of : (required : Requirements) → AreSomeOf required required
all_of required = record { pairs = All-contains_itself required.pairs; keys = All-contains_itself required.keys }

pub events_ask_no_more : (demand : EventDemand) → IsWeakerEvent demand (event_adjusted demand)
events_ask_no_more demand there = search (rules, raises, stays)

pub events_only_raise : OnlyRaises event_meaning event_adjusted
events_only_raise = record {
  accepts = λ demand required d accepts. weaker_event_accepts demand (event_adjusted demand) required required d (events_ask_no_more demand) (all_of required) accepts;
  once = λ demand. simp twice;
}

pub publish_subscribe_asks_no_more : (demand : PublishSubscribeDemand) → IsWeakerPublishSubscribe demand (publish_subscribe.publish_subscribe_adjusted demand)
publish_subscribe_asks_no_more demand there = search (rules, raises, stays)

pub publish_subscribe_only_raises : OnlyRaises publish_subscribe.prepared_meaning publish_subscribe.prepared_adjusted
publish_subscribe_only_raises = record {
  accepts = λ asked required d accepts. weaker_publish_subscribe_accepts asked.demand (publish_subscribe.publish_subscribe_adjusted asked.demand) asked.message asked.message required required d (publish_subscribe_asks_no_more asked.demand) (reflexive asked.message) (all_of required) accepts;
  once = λ asked. simp twice;
}

pub request_response_asks_no_more : (demand : RequestResponseDemand) → IsWeakerRequestResponse demand (request_response.request_response_adjusted demand)
request_response_asks_no_more demand there = search (rules, raises)

pub request_response_only_raises : OnlyRaises request_response.prepared_meaning request_response.prepared_adjusted
request_response_only_raises = record {
  accepts = λ asked required d accepts. weaker_request_response_accepts asked.demand (request_response.request_response_adjusted asked.demand) asked.request asked.response asked.request asked.response required required d (request_response_asks_no_more asked.demand) (reflexive asked.request) (reflexive asked.response) (all_of required) accepts;
  once = λ asked. simp twice;
}
