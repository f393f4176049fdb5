use Rattle.std.proofs.Common.{rules}
use Rattle.iceoryx2_builder.proofs.Setters.{event_setters, publish_subscribe_setters, request_response_setters}
use Rattle.iceoryx2_builder.proofs.Accepts.{weaker_event_accepts, weaker_publish_subscribe_accepts, weaker_request_response_accepts}
use Rattle.iceoryx2_builder.proofs.builder.laws.Goals as goal

pub returns : goal.returns
returns c = record {
  event_setters = event_setters;
  publish_subscribe_setters = publish_subscribe_setters;
  request_response_setters = request_response_setters;
  reflexive = search rules;
  transitive = search rules;
  weaker_events = weaker_event_accepts;
  weaker_publish_subscribe = weaker_publish_subscribe_accepts;
  weaker_request_response = weaker_request_response_accepts;
}
