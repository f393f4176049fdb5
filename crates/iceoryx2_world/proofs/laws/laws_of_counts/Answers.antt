use Rattle.iceoryx2_world.proofs.agreement.Calm.{own_calmed, own_unlocks, publishing_counts, joining_counts, releasing_counts}
use Rattle.iceoryx2_world.proofs.agreement.Few.{few_tickets}
use Rattle.iceoryx2_world.proofs.laws.laws_of_counts.Goals as goal

pub returns-clause-few : goal.returns-clause-few
returns-clause-few g = λ w i h old. few_tickets w old.numbered i h

pub returns-clause-calm : goal.returns-clause-calm
returns-clause-calm g = λ w v l ok o. (own_calmed w l v ok o).same

pub returns-clause-unlock : goal.returns-clause-unlock
returns-clause-unlock g = own_unlocks

pub returns-clause-publishing : goal.returns-clause-publishing
returns-clause-publishing g = publishing_counts

pub returns-clause-opening : goal.returns-clause-opening
returns-clause-opening g = joining_counts

pub returns-clause-releasing : goal.returns-clause-releasing
returns-clause-releasing g = releasing_counts
