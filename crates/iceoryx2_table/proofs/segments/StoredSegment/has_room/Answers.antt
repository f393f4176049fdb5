use Rattle.std.proofs.Common.{rules}
use Rattle.iceoryx2_table.proofs.segments.StoredSegment.has_room.Goals as goal

pub returns-then-not-self : goal.returns-then-not-self
returns-then-not-self c = search rules
