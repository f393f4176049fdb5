use Rattle.iceoryx2_builder.proofs.Retries.{event_opens, event_creates, publish_subscribe_opens, publish_subscribe_creates, request_response_opens, request_response_creates}
use Rattle.iceoryx2_builder.proofs.builder.laws_of_retries.Goals as goal

pub returns-clause-event_opens : goal.returns-clause-event_opens
returns-clause-event_opens c = event_opens

pub returns-clause-event_creates : goal.returns-clause-event_creates
returns-clause-event_creates c = event_creates

pub returns-clause-publish_subscribe_opens : goal.returns-clause-publish_subscribe_opens
returns-clause-publish_subscribe_opens c = publish_subscribe_opens

pub returns-clause-publish_subscribe_creates : goal.returns-clause-publish_subscribe_creates
returns-clause-publish_subscribe_creates c = publish_subscribe_creates

pub returns-clause-request_response_opens : goal.returns-clause-request_response_opens
returns-clause-request_response_opens c = request_response_opens

pub returns-clause-request_response_creates : goal.returns-clause-request_response_creates
returns-clause-request_response_creates c = request_response_creates
