use Rattle.std.proofs.Common.{rules}
use Rattle.iceoryx2_table.proofs.table.stored.StoredWorld.counts.Goals as goal

pub returns-in-Joined : goal.returns-in-Joined
returns-in-Joined c = search rules
