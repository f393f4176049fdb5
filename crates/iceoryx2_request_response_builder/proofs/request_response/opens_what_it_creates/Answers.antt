use Rattle.iceoryx2_request_response_builder.proofs.Builders.{request_response_builder}
use Rattle.iceoryx2_request_response_builder.proofs.request_response.opens_what_it_creates.Goals as goal

pub returns : goal.returns
returns c = λ demand request response. request_response_builder demand request response
