use Rattle.std.proofs.Common.{rules}
use Rattle.iceoryx2_table.proofs.table.stored.StoredWorld.exists.Goals as goal

pub returns-in-Locked : goal.returns-in-Locked
returns-in-Locked c = search rules

pub returns-in-Published : goal.returns-in-Published
returns-in-Published c = search rules
