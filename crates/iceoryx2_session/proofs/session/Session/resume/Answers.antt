use Rattle.std.proofs.Common.{ap, refl}
use Rattle.iceoryx2_session.proofs.Resumed.{stand_again}
use Rattle.iceoryx2_session.proofs.StandingSlots.{none_stand}
use Rattle.iceoryx2_session.proofs.session.Session.resume.Goals as goal

pub returns-then-has_tickets-clause-stands : goal.returns-then-has_tickets-clause-stands
returns-then-has_tickets-clause-stands g c = λ agrees old. stand_again (c.resume-is_all.ensures.kept agrees) (c.if-has_tickets.ensures refl) old

pub returns-clause-stands : goal.returns-clause-stands
returns-clause-stands g c = λ agrees old. none_stand _ _ _ (ap (λ s. s.slots) c.abandon_all.ensures)
