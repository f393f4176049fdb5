use Rattle.std.proofs.Common.{rules}
use Rattle.iceoryx2_table.proofs.segments.StoredSegment.dismiss.Goals as goal

pub returns : goal.returns
returns c = search rules
