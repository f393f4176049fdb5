use Rattle.iceoryx2_builder.proofs.Looks.{events_answer, publish_subscribe_answers, request_response_answers}
use Rattle.iceoryx2_builder.proofs.builder.laws_of_looks.Goals as goal

pub returns-clause-events : goal.returns-clause-events
returns-clause-events c = events_answer

pub returns-clause-publish_subscribe : goal.returns-clause-publish_subscribe
returns-clause-publish_subscribe c = publish_subscribe_answers

pub returns-clause-request_response : goal.returns-clause-request_response
returns-clause-request_response c = request_response_answers
