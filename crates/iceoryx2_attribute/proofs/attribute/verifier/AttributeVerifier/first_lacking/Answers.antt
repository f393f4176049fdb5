use Rattle.std.proofs.Common.{rules}
use Rattle.iceoryx2_attribute.specs.Requirements.{first_lacking}
use Rattle.iceoryx2_attribute.proofs.attribute.verifier.AttributeVerifier.first_lacking.Goals as goal

pub returns-in-Some : goal.returns-in-Some
unfolding first_lacking
returns-in-Some c = search rules
