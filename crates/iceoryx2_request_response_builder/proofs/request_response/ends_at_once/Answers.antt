use Rattle.iceoryx2_request_response_builder.proofs.Builders.{request_response_ends_at_once}
use Rattle.iceoryx2_request_response_builder.proofs.request_response.ends_at_once.Goals as goal

pub returns : goal.returns
returns c = request_response_ends_at_once
