use Rattle.iceoryx2_rounds.proofs.Prepared.{granted_call}
use Rattle.iceoryx2_rounds.proofs.Carried.{opened_carries}
use Rattle.iceoryx2_rounds.proofs.laws.granted_open_carries.Goals as goal

pub returns : goal.returns
returns g c = λ m node hash word r w. opened_carries (granted_call w)
