use Rattle.std.proofs.Common.{◌+◌}
use Rattle.std.specs.Prelude.{Ok}
use Rattle.sorted_vec.proofs.Places.{place_tells}
use Rattle.sorted_vec.proofs.sorted.SortedVec.place_of.Goals as goal

pub returns-in-Ok-clause-there : goal.returns-in-Ok-clause-there
returns-in-Ok-clause-there g c = place_tells g.K.Ord.cmp c.args.self.now c.args.key.now (c.in-Ok.other + 1) (Ok 0) c.in-Ok.ensures.first.0

pub returns-in-Err-clause-there : goal.returns-in-Err-clause-there
returns-in-Err-clause-there g c = place_tells g.K.Ord.cmp c.args.self.now c.args.key.now c.place_within.result.piece c.place_within.result.at c.place_within.ensures
