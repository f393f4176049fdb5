use Rattle.iceoryx2_access.proofs.Run.{joins}
use Rattle.iceoryx2_access.specs.Run.{next}
use Rattle.iceoryx2_rounds.specs.GivesBack.{segment_back}
use Rattle.iceoryx2_rounds.proofs.give_back.give_back_segment.Goals as goal

pub returns : goal.returns
returns g c = let back = c.give_back_lock.ensures in joins (segment_back c.remove_segment.result back.is_word) (next c.remove_segment.ensures back.run)
