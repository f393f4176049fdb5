use Rattle.iceoryx2_access.proofs.Run.{joins, one}
use Rattle.iceoryx2_access.specs.Run.{done}
use Rattle.iceoryx2_rounds.specs.GivesBack.{nothing_left, tag_back}
use Rattle.iceoryx2_rounds.proofs.give_back.give_back_tag.Goals as goal

pub returns-in-Made : goal.returns-in-Made
returns-in-Made g c = rw c.in-Made.is (joins (tag_back c.remove_tag.result nothing_left) (one c.remove_tag.ensures))

pub returns-in-Found : goal.returns-in-Found
returns-in-Found g c = rw c.in-Found.is (joins nothing_left done)
