use Rattle.std.proofs.Common.{rules}
use Rattle.iceoryx2_description.proofs.description.ServiceName.new.Goals as goal

pub returns-in-Err-clause-length : goal.returns-in-Err-clause-length
returns-in-Err-clause-length c = search rules
