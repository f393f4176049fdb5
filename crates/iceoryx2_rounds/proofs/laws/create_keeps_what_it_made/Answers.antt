use Rattle.iceoryx2_rounds.proofs.Prepared.{granted_call}
use Rattle.iceoryx2_rounds.proofs.Kept.{created_keeps}
use Rattle.iceoryx2_rounds.proofs.laws.create_keeps_what_it_made.Goals as goal

pub returns : goal.returns
returns g c = λ m caller word r w. created_keeps (granted_call w)
