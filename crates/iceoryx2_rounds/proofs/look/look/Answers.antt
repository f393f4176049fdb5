use Rattle.iceoryx2_access.proofs.Run.{joins, one}
use Rattle.iceoryx2_access.specs.Run.{next}
use Rattle.iceoryx2_rounds.specs.Looks.{absent, broken, fetched}
use Rattle.iceoryx2_rounds.proofs.LookSteps.{may_be_there}
use Rattle.iceoryx2_rounds.proofs.look.look.Goals as goal

pub returns-in-No : goal.returns-in-No
returns-in-No g c = joins absent (one c.in-No.ensures)

pub returns-in-Fault : goal.returns-in-Fault
returns-in-Fault g c = joins broken (one c.in-Fault.ensures)

pub returns-in-Yes : goal.returns-in-Yes
returns-in-Yes g c = joins (fetched (may_be_there c.exists.result c.in-Yes.is) c.outcome_of.ensures) (next c.exists.ensures (one c.fetch-answer.ensures))
