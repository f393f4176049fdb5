use Rattle.iceoryx2_session.proofs.Places.{nothing_anywhere}
use Rattle.iceoryx2_session.proofs.slots.Slots.new.Goals as goal

pub returns : goal.returns
returns c = nothing_anywhere c.default.result 64 c.default.ensures.long c.default.ensures.at
