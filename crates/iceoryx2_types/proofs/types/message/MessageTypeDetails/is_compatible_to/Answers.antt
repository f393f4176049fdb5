use Rattle.iceoryx2_types.specs.Types.{compatible}
use Rattle.std.proofs.Common.{rules}
use Rattle.iceoryx2_types.proofs.types.message.MessageTypeDetails.is_compatible_to.Goals as goal

pub returns-then-fits-clause-exact : goal.returns-then-fits-clause-exact
returns-then-fits-clause-exact c = search rules

pub returns-then-fits-clause-value : goal.returns-then-fits-clause-value
unfolding compatible
returns-then-fits-clause-value c = search rules
