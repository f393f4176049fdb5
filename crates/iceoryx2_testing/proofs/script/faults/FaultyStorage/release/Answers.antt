use Rattle.std.proofs.Common.{rules}
use Rattle.iceoryx2_testing.proofs.script.faults.FaultyStorage.release.Goals as goal

pub returns : goal.returns
returns g c = search rules
