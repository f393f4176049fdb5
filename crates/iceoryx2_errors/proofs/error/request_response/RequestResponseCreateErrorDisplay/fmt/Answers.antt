use Rattle.std.proofs.Common.{rules}
use Rattle.iceoryx2_errors.proofs.error.request_response.RequestResponseCreateErrorDisplay.fmt.Goals as goal

pub returns-clause-writes : goal.returns-clause-writes
returns-clause-writes g c = search rules
