use Rattle.iceoryx2_monitoring.proofs.Suffixes.{beside, one_file_each}
use Rattle.iceoryx2_monitoring.proofs.path.laws_of_paths.Goals as goal

pub returns-clause-beside : goal.returns-clause-beside
returns-clause-beside c = beside

pub returns-clause-one : goal.returns-clause-one
returns-clause-one c = one_file_each
