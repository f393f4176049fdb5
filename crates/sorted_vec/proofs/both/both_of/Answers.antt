use Rattle.sorted_vec.proofs.BothKeys.{is_both}
use Rattle.sorted_vec.proofs.both.both_of.Goals as goal

pub returns : goal.returns
returns g c = λ same m n. is_both g.K.Ord.cmp g.met.K.Ord.total same m n
