use Rattle.iceoryx2_journal.proofs.Processes.{agrees_in_each, goes_on, publishes_once, carries_one, stands_in_others, own_stands_in_others, own_stands_at_the_end, few_have_a_part, stands_across, carries_across, few_across}
use Rattle.iceoryx2_journal.proofs.laws.processes.Goals as goal

pub returns-clause-agrees : goal.returns-clause-agrees
returns-clause-agrees g c = agrees_in_each g.L.Log.contents

pub returns-clause-on : goal.returns-clause-on
returns-clause-on g c = goes_on g.L.Log.contents

pub returns-clause-once : goal.returns-clause-once
returns-clause-once g c = publishes_once g.L.Log.contents

pub returns-clause-one : goal.returns-clause-one
returns-clause-one g c = carries_one g.L.Log.contents

pub returns-clause-stands : goal.returns-clause-stands
returns-clause-stands g c = stands_in_others g.L.Log.contents

pub returns-clause-own : goal.returns-clause-own
returns-clause-own g c = own_stands_in_others g.L.Log.contents

pub returns-clause-own_at_the_end : goal.returns-clause-own_at_the_end
returns-clause-own_at_the_end g c = own_stands_at_the_end g.L.Log.contents

pub returns-clause-few : goal.returns-clause-few
returns-clause-few g c = few_have_a_part g.L.Log.contents

pub returns-clause-stands_across : goal.returns-clause-stands_across
returns-clause-stands_across g c = stands_across g.L.Log.contents

pub returns-clause-one_across : goal.returns-clause-one_across
returns-clause-one_across g c = carries_across g.L.Log.contents

pub returns-clause-few_across : goal.returns-clause-few_across
returns-clause-few_across g c = few_across g.L.Log.contents
