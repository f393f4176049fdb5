use Rattle.wulameron_place.proofs.Rehearsing.{own_part}
use Rattle.wulameron_place.proofs.rehearsal.remove_segment.Goals as goal

pub returns : goal.returns
returns c = own_part c.remove_segment.ensures
