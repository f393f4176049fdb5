use Rattle.std.proofs.Common.{rules}
use Rattle.iceoryx2_attribute.proofs.attribute.verifier.AttributeVerifier.require.Goals as goal

pub returns-clause-pairs : goal.returns-clause-pairs
returns-clause-pairs c = search rules
