use Rattle.std.proofs.Common.{rules}
use Rattle.iceoryx2_types.specs.Types.{with_overrides}
use Rattle.iceoryx2_types.proofs.types.message.MessageTypeDetails.with_overrides.Goals as goal

pub returns-clause-value : goal.returns-clause-value
unfolding with_overrides
returns-clause-value c = search rules
