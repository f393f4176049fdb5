use Rattle.std.proofs.Common.{rules}
use Rattle.iceoryx2_table.proofs.segments.StoredSegment.fits.Goals as goal

pub returns-then-is_eq : goal.returns-then-is_eq
returns-then-is_eq c = search rules
