use Rattle.iceoryx2_world.proofs.AccessCases.{access_case, case_answer}
use Rattle.iceoryx2_world.proofs.laws.accesses.Goals as goal

pub returns-clause-listed : goal.returns-clause-listed
returns-clause-listed g = λ w v l o. record { change = o.change; own = access_case _ l o.change o.own; is = o.is }

pub returns-clause-each_listed : goal.returns-clause-each_listed
returns-clause-each_listed g = λ w v l o. record { change = o.change; own = case_answer o.own; is = o.is }
