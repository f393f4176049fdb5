use Rattle.std.proofs.Common.{rules}
use Rattle.iceoryx2_large_table.proofs.world.unrecorded.WorldOverOwnParts.counts.Goals as goal

pub returns-in-Joined : goal.returns-in-Joined
returns-in-Joined g c = search rules
