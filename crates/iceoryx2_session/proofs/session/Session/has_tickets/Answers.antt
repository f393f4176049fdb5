use Rattle.std.proofs.Common.{arith}
use Rattle.iceoryx2_session.proofs.Resumed.{looked_all, looked_none}
use Rattle.iceoryx2_session.proofs.session.Session.has_tickets.Goals as goal

pub loop-slot-init : goal.loop-slot-init
loop-slot-init g c = looked_none (g.S.WorldStorage.world c.args.self.now.storage) c.args.self.now.slots

pub returns : goal.returns
returns g c = λ is. looked_all (g.S.WorldStorage.world c.args.self.now.storage) c.args.self.now.slots c.loop-slot.slot (omega (arith, c.loop-slot-test.false)) c.loop-slot.invariant
