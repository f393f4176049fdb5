use Rattle.iceoryx2_session.proofs.StandingSlots.{none_stand}
use Rattle.iceoryx2_session.proofs.session.Session.over.Goals as goal

pub returns-clause-stands : goal.returns-clause-stands
returns-clause-stands g c = none_stand _ _ _ c.new.ensures
