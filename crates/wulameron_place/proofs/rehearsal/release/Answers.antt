use Rattle.wulameron_place.proofs.Rehearsing.{own_part}
use Rattle.wulameron_place.proofs.rehearsal.release.Goals as goal

pub returns : goal.returns
returns c = own_part c.release.ensures
