use Rattle.iceoryx2_session.proofs.Finishing.{Finishing}
use Rattle.iceoryx2_session.proofs.session.Session.close_all.Given as goal

abbrev pub invariant-loop-slot : goal.invariant-loop-slot
invariant-loop-slot g l = Finishing g.S.Storage.step l.fn.self.storage l.fn.self.slots l.slot l.storage l.slots
