use Rattle.std.proofs.Common.{List, ℕ, subst}
use Rattle.iceoryx2_journal.specs.Owed.{SettlesInWorld}
use Rattle.iceoryx2_journal.proofs.Settled.{settled_agrees, settled_kept}
use Rattle.iceoryx2_session.proofs.Settling.{settled_slots}
use Rattle.iceoryx2_session.proofs.session.Session.settle.Goals as goal

pub returns-clause-kept : goal.returns-clause-kept
returns-clause-kept g c =
    settled_kept c.args.node _ (g.S.WorldStorage.own c.args.self.now.storage) (g.S.WorldStorage.world c.args.self.now.storage) (g.S.WorldStorage.world c.settle.new.self) c.settle.result c.settle.ensures.gives

pub returns-clause-agrees : goal.returns-clause-agrees
returns-clause-agrees g c =
    settled_agrees c.args.node _ (g.S.WorldStorage.own c.args.self.now.storage) (g.S.WorldStorage.world c.args.self.now.storage) (g.S.WorldStorage.world c.settle.new.self) c.settle.result c.settle.ensures.gives

pub returns-clause-stands : goal.returns-clause-stands
returns-clause-stands g c =
    let own = g.S.WorldStorage.own c.args.self.now.storage in
    let w = g.S.WorldStorage.world c.args.self.now.storage in
    let v = g.S.WorldStorage.world c.settle.new.self in
    settled_slots own c.args.node c.args.self.now.slots w v c.settle.result
    (subst (λ (ts : List ℕ). SettlesInWorld own c.args.node ts c.settle.result w v) c.tickets-count.ensures.tickets c.settle.ensures.gives)
