use Rattle.std.proofs.Common.{rules}
use Rattle.iceoryx2_testing.proofs.script.faults.FaultyStorage.lock.Goals as goal

pub returns-then-count : goal.returns-then-count
returns-then-count c = search rules
