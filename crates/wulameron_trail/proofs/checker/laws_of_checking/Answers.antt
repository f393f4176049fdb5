use Rattle.wulameron_trail.proofs.Walking.{reached_agree}
use Rattle.wulameron_trail.proofs.checker.laws_of_checking.Goals as goal

pub returns : goal.returns
returns g = reached_agree
