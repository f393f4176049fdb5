use Rattle.iceoryx2_rounds.proofs.Prepared.{granted_call}
use Rattle.iceoryx2_rounds.proofs.Carried.{created_carries}
use Rattle.iceoryx2_rounds.proofs.laws.granted_create_carries.Goals as goal

pub returns : goal.returns
returns g c = λ m caller word r w. created_carries (granted_call w)
