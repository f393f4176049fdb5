use Rattle.std.proofs.Common.{rules}
use Rattle.iceoryx2_testing.proofs.script.faults.FaultyStorage.publish.Goals as goal

pub returns-then-count : goal.returns-then-count
returns-then-count g c = search rules
