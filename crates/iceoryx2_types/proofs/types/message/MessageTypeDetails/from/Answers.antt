use Rattle.std.proofs.Common.{rules}
use Rattle.iceoryx2_types.proofs.types.message.MessageTypeDetails.from.Goals as goal

pub returns-clause-header : goal.returns-clause-header
returns-clause-header g c = search rules
