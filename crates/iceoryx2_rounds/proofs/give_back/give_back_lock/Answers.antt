use Rattle.iceoryx2_access.proofs.Run.{joins}
use Rattle.iceoryx2_access.specs.Run.{next}
use Rattle.iceoryx2_rounds.specs.GivesBack.{lock_back}
use Rattle.iceoryx2_rounds.proofs.give_back.give_back_lock.Goals as goal

pub returns : goal.returns
returns g c = let back = c.give_back_tag.ensures in joins (lock_back c.remove_description.result back.is_word) (next c.remove_description.ensures back.run)
