use Rattle.std_collections.proofs.IterRuns.{shows_in_order}
use Rattle.sorted_vec.specs.Both.{shown}
use Rattle.sorted_vec.proofs.both.Both.new.Goals as goal

pub returns-clause-runs : goal.returns-clause-runs
returns-clause-runs g c = shows_in_order shown
