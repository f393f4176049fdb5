use Rattle.iceoryx2_builder.proofs.LawfulCalls.{event_call_is_lawful, publish_subscribe_call_is_lawful, request_response_call_is_lawful}
use Rattle.iceoryx2_call_laws.proofs.calls.Promise.{keeps_promise}
use Rattle.iceoryx2_service.proofs.promise.promise_of_builders.Goals as goal

pub returns : goal.returns
returns c = record {
  events = λ hash_of b way defined required now. keeps_promise _ (event_call_is_lawful hash_of b way defined required now);
  publish_subscribe = λ hash_of b message way defined required. keeps_promise _ (publish_subscribe_call_is_lawful hash_of b message way defined required);
  request_response = λ hash_of b messages way defined required. keeps_promise _ (request_response_call_is_lawful hash_of b messages way defined required);
}
