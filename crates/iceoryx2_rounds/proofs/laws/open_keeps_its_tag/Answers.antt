use Rattle.iceoryx2_rounds.proofs.Prepared.{granted_call}
use Rattle.iceoryx2_rounds.proofs.Kept.{opened_keeps}
use Rattle.iceoryx2_rounds.proofs.laws.open_keeps_its_tag.Goals as goal

pub returns : goal.returns
returns g c = λ m node hash word r w. opened_keeps (granted_call w)
