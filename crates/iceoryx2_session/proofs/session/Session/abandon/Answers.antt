use Rattle.std.proofs.Common.{sym, subst}
use Rattle.iceoryx2_session.specs.StandingSlots.{SlotsStandUnder}
use Rattle.iceoryx2_session.proofs.StandingSlots.{dropped_stand}
use Rattle.iceoryx2_session.proofs.session.Session.abandon.Goals as goal

pub returns-in-Some-clause-stands : goal.returns-in-Some-clause-stands
returns-in-Some-clause-stands g c = λ old.
    subst (λ l. SlotsStandUnder (g.S.WorldStorage.own c.args.self.now.storage) (g.S.WorldStorage.world c.args.self.now.storage) l)
    (sym c.remove.ensures.after) (dropped_stand old c.args.slot)

pub returns-in-None-clause-stands : goal.returns-in-None-clause-stands
returns-in-None-clause-stands g c = λ old.
    subst (λ l. SlotsStandUnder (g.S.WorldStorage.own c.args.self.now.storage) (g.S.WorldStorage.world c.args.self.now.storage) l)
    (sym c.remove.ensures.after) (dropped_stand old c.args.slot)
