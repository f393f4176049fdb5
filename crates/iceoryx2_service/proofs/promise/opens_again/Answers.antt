use Rattle.iceoryx2_builder.proofs.LawfulCalls.{event_call_is_lawful, publish_subscribe_call_is_lawful, request_response_call_is_lawful}
use Rattle.iceoryx2_call_laws.proofs.quiet.Own.{opens_again}
use Rattle.iceoryx2_service.proofs.promise.opens_again.Goals as goal

pub returns : goal.returns
returns c = record {
  events = λ hash_of b way defined required now. opens_again _ (event_call_is_lawful hash_of b way defined required now);
  publish_subscribe = λ hash_of b message way defined required. opens_again _ (publish_subscribe_call_is_lawful hash_of b message way defined required);
  request_response = λ hash_of b messages way defined required. opens_again _ (request_response_call_is_lawful hash_of b messages way defined required);
}
