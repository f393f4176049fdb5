use Rattle.std.proofs.Common.{rules}
use Rattle.negotiate_lines.proofs.value.time_or_fault.Goals as goal

pub returns-in-fault : goal.returns-in-fault
returns-in-fault c = search rules
