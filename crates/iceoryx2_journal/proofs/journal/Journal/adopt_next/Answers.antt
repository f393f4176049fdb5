use Rattle.iceoryx2_journal.proofs.GivingBack.{adopted}
use Rattle.iceoryx2_journal.proofs.journal.Journal.adopt_next.Goals as goal

pub returns-then-not-begin-clause-adopts : goal.returns-then-not-begin-clause-adopts
returns-then-not-begin-clause-adopts g c = c.if-not-begin.ensures.begins

pub returns-clause-adopts : goal.returns-clause-adopts
returns-clause-adopts g c = adopted c.self.view_is c.if-not-begin.ensures.begins c.in-Ok.ensures.items c.let_go-2.ensures.same
