use Rattle.iceoryx2_builder.proofs.LawfulCalls.{event_call_is_lawful, publish_subscribe_call_is_lawful, request_response_call_is_lawful}
use Rattle.iceoryx2_builder.proofs.builder.lawful_calls.Goals as goal

-- of two grammars each is the other by its definition
pub returns : goal.returns
returns c = record {
  events = event_call_is_lawful;
  publish_subscribe = publish_subscribe_call_is_lawful;
  request_response = request_response_call_is_lawful;
  event_words = λ hash_of b defined required now. (λ w a. (λ is. is, λ is. is), λ w a. (λ is. is, λ is. is), λ w a. (λ is. is, λ is. is));
  publish_subscribe_words = λ hash_of b message defined required. (λ w a. (λ is. is, λ is. is), λ w a. (λ is. is, λ is. is), λ w a. (λ is. is, λ is. is));
  request_response_words = λ hash_of b messages defined required. (λ w a. (λ is. is, λ is. is), λ w a. (λ is. is, λ is. is), λ w a. (λ is. is, λ is. is));
}
