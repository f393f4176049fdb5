use Rattle.std.proofs.Common.{rules}
use Rattle.iceoryx2_table.proofs.segments.StoredSegment.refusal.Goals as goal

pub returns-then-self : goal.returns-then-self
returns-then-self c = search rules

pub returns-then-not-has_room : goal.returns-then-not-has_room
returns-then-not-has_room c = search rules

pub returns-else-count-ge18446744073709551615 : goal.returns-else-count-ge18446744073709551615
returns-else-count-ge18446744073709551615 c = search rules
