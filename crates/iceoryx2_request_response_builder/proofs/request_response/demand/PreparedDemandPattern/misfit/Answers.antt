use Rattle.std.proofs.Common.{rules}
use Rattle.iceoryx2_request_response_builder.proofs.request_response.demand.PreparedDemandPattern.misfit.Goals as goal

pub returns-then-not-is_compatible_to : goal.returns-then-not-is_compatible_to
returns-then-not-is_compatible_to c = search rules
