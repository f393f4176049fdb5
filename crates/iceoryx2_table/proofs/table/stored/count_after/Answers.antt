use Rattle.std.proofs.Common.{rules}
use Rattle.iceoryx2_table.proofs.table.stored.count_after.Goals as goal

pub returns-in-Err : goal.returns-in-Err
returns-in-Err c = search rules
