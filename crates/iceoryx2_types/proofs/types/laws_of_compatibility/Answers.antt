use Rattle.iceoryx2_types.proofs.Compatible.{decided}
use Rattle.iceoryx2_types.proofs.Powers.{powers}
use Rattle.iceoryx2_types.proofs.types.laws_of_compatibility.Goals as goal

pub returns-clause-decided : goal.returns-clause-decided
returns-clause-decided c = decided

pub returns-clause-alignments : goal.returns-clause-alignments
returns-clause-alignments c = powers
