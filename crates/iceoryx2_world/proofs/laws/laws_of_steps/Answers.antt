use Rattle.iceoryx2_world.proofs.agreement.StepCases.{step_case, case_allowed}
use Rattle.iceoryx2_world.proofs.agreement.Empty.{empty_agrees}
use Rattle.iceoryx2_world.proofs.agreement.Worlds.{bare_keeps}
use Rattle.iceoryx2_world.proofs.agreement.Accesses.{later_trans}
use Rattle.iceoryx2_world.proofs.laws.laws_of_steps.Goals as goal

pub returns-clause-empty : goal.returns-clause-empty
returns-clause-empty g = λ c. empty_agrees c

pub returns-clause-allowed : goal.returns-clause-allowed
returns-clause-allowed g = λ p h act x r s c new. (step_case p h act x r s c new, case_allowed p h)

pub returns-clause-step : goal.returns-clause-step
returns-clause-step g = bare_keeps

pub returns-clause-later : goal.returns-clause-later
returns-clause-later g = later_trans
