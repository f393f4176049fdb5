use Rattle.iceoryx2_world.proofs.agreement.Accesses.{refusable, run_keeps}
use Rattle.iceoryx2_world.proofs.agreement.Interference.{others_keep_own, rely_same, rely_both, rely_fewer, spent_access, all_tickets, all_tags}
use Rattle.iceoryx2_world.proofs.laws.laws_of_accesses.Goals as goal

pub returns-clause-others : goal.returns-clause-others
returns-clause-others g = λ own w v. others_keep_own own

pub returns-clause-nothing : goal.returns-clause-nothing
returns-clause-nothing g = rely_same

pub returns-clause-both : goal.returns-clause-both
returns-clause-both g = rely_both

pub returns-clause-fewer : goal.returns-clause-fewer
returns-clause-fewer g = rely_fewer

pub returns-clause-all_tickets : goal.returns-clause-all_tickets
returns-clause-all_tickets g = all_tickets

pub returns-clause-all_tags : goal.returns-clause-all_tags
returns-clause-all_tags g = all_tags

pub returns-clause-may_refuse : goal.returns-clause-may_refuse
returns-clause-may_refuse g = λ own w v l a. refusable (rely_same own) w l v a

pub returns-clause-run : goal.returns-clause-run
returns-clause-run g = λ own w v word. run_keeps {own = own}

pub returns-clause-spent : goal.returns-clause-spent
returns-clause-spent g = λ own w v l h n. spent_access {own = own} w l v h n
