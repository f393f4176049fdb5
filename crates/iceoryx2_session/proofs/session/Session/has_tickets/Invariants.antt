use Rattle.iceoryx2_session.proofs.Resumed.{Looked}
use Rattle.iceoryx2_session.proofs.session.Session.has_tickets.Given as goal

abbrev pub invariant-loop-slot : goal.invariant-loop-slot
invariant-loop-slot g l = Looked (g.S.WorldStorage.world l.fn.self.storage) l.fn.self.slots l.slot
