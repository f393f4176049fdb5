use Rattle.std.proofs.Common.{ap, ◌∙◌}
use Rattle.iceoryx2_world.specs.Interference.{everyone}
use Rattle.iceoryx2_session.proofs.StandingSlots.{none_stand}
use Rattle.iceoryx2_session.proofs.QuietSessions.{is_fresh}
use Rattle.iceoryx2_session.proofs.session.Session.new.Goals as goal

pub returns-clause-stands : goal.returns-clause-stands
returns-clause-stands g c = none_stand everyone _ _ (ap (λ s. s.slots) c.over.ensures.state)

pub returns-clause-fresh : goal.returns-clause-fresh
returns-clause-fresh g c = λ n e waiting.
    is_fresh _ n (ap (λ s. (g.S.TableStorage.shown s.table).world) c.over.ensures.state ∙ e) (ap (λ s. (g.S.TableStorage.shown s.table).waiting) c.over.ensures.state ∙ waiting)
