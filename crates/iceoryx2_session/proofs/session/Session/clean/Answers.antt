use Rattle.iceoryx2_session.proofs.StandingSlots.{stand_kept, own_kept}
use Rattle.iceoryx2_session.proofs.session.Session.clean.Goals as goal

pub returns-clause-stands : goal.returns-clause-stands
returns-clause-stands g c = λ agrees old. stand_kept (c.clean.ensures.kept agrees) old

pub returns-clause-owns : goal.returns-clause-owns
returns-clause-owns g c = λ agrees owned. own_kept (c.clean.ensures.kept agrees) owned
