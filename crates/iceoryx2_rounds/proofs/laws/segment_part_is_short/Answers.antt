use Rattle.iceoryx2_rounds.proofs.Counts.{segment_within}
use Rattle.iceoryx2_rounds.proofs.laws.segment_part_is_short.Goals as goal

pub returns : goal.returns
returns c = segment_within
