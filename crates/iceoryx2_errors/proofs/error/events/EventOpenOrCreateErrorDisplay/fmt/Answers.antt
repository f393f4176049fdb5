use Rattle.std.proofs.Common.{rules}
use Rattle.iceoryx2_errors.proofs.error.events.EventOpenOrCreateErrorDisplay.fmt.Goals as goal

pub returns-in-EventCreateError-clause-writes : goal.returns-in-EventCreateError-clause-writes
returns-in-EventCreateError-clause-writes g c = search rules
