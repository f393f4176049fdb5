use Rattle.std.proofs.Common.{rules}
use Rattle.iceoryx2_large_table.proofs.world.unrecorded.WorldOverOwnParts.exists.Goals as goal

pub returns-in-Locked : goal.returns-in-Locked
returns-in-Locked g c = search rules

pub returns-in-Published : goal.returns-in-Published
returns-in-Published g c = search rules
