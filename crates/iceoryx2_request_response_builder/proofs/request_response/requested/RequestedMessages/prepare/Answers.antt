use Rattle.std.proofs.Common.{rules}
use Rattle.iceoryx2_request_response_builder.proofs.request_response.requested.RequestedMessages.prepare.Goals as goal

pub returns : goal.returns
returns g c = search rules
