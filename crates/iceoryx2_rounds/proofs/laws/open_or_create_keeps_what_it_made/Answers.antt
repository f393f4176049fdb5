use Rattle.iceoryx2_rounds.proofs.Prepared.{granted_call}
use Rattle.iceoryx2_rounds.proofs.Left.{granted_keeps}
use Rattle.iceoryx2_rounds.proofs.laws.open_or_create_keeps_what_it_made.Goals as goal

pub returns : goal.returns
returns g c = λ call word r w. granted_keeps (granted_call w)
