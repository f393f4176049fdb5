use Rattle.iceoryx2_builder.proofs.Adjusting.{events_ask_no_more, publish_subscribe_asks_no_more, request_response_asks_no_more}
use Rattle.iceoryx2_builder.proofs.Adjusting.{events_only_raise, publish_subscribe_only_raises, request_response_only_raises}
use Rattle.iceoryx2_builder.proofs.builder.laws_of_adjusting.Goals as goal

pub returns : goal.returns
returns c = record {
  events_ask_no_more = events_ask_no_more;
  publish_subscribe_asks_no_more = publish_subscribe_asks_no_more;
  request_response_asks_no_more = request_response_asks_no_more;
  events_only_raise = events_only_raise;
  publish_subscribe_only_raises = publish_subscribe_only_raises;
  request_response_only_raises = request_response_only_raises;
}
