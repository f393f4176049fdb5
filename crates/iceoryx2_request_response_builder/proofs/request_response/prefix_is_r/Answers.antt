use Rattle.std.proofs.Common.{rules}
use Rattle.iceoryx2_request_response_builder.proofs.request_response.prefix_is_r.Goals as goal

pub returns : goal.returns
returns c = search rules
