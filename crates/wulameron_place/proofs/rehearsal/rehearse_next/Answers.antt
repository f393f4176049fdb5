use Rattle.wulameron_place.proofs.Rehearsing.{stepped}
use Rattle.wulameron_place.proofs.rehearsal.rehearse_next.Goals as goal

pub returns : goal.returns
returns c = stepped c.args.node c.step_of.ensures c.holding.ensures c.in-Some.is c.give_back.ensures
