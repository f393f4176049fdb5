use Rattle.iceoryx2_rounds.proofs.Prepared.{granted_call}
use Rattle.iceoryx2_rounds.proofs.Granted.{granted_carries, carries_prepared}
use Rattle.iceoryx2_rounds.proofs.laws.granted_open_or_create_carries.Goals as goal

pub returns : goal.returns
returns g c = λ call word r w. let carried = granted_carries (granted_call w) in (carried.0, carries_prepared call carried.1)
