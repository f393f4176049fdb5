use Rattle.std.proofs.Common.{rules}
use Rattle.iceoryx2_errors.proofs.error.CloseError.name.Goals as goal

pub returns-in-TagNotRemoved : goal.returns-in-TagNotRemoved
returns-in-TagNotRemoved g c = search rules
