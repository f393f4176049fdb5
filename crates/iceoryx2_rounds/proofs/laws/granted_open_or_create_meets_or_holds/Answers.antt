use Rattle.iceoryx2_rounds.proofs.Prepared.{granted_call}
use Rattle.iceoryx2_rounds.proofs.Adjusting.{carries_once}
use Rattle.iceoryx2_rounds.proofs.Granted.{granted_carries, carries_prepared}
use Rattle.iceoryx2_rounds.proofs.laws.granted_open_or_create_meets_or_holds.Goals as goal

pub returns : goal.returns
returns g c = λ call word r raises w. carries_once raises (carries_prepared call (granted_carries (granted_call w)).1)
