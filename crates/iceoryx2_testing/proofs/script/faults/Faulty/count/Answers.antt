use Rattle.std.proofs.Common.{rules}
use Rattle.iceoryx2_testing.proofs.script.faults.Faulty.count.Goals as goal

pub returns-clause-counted : goal.returns-clause-counted
returns-clause-counted g c = search rules
