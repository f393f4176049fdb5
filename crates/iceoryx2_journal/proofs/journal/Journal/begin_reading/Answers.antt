use Rattle.std.proofs.Common.{true, refl, sym}
use Rattle.iceoryx2_journal.proofs.Begins.{held_not, over_then, may_begin, barred_from, stopped_from, grown_begins}
use Rattle.iceoryx2_journal.proofs.journal.Journal.begin_reading.Goals as goal

pub returns-then-self-clause-begins : goal.returns-then-self-clause-begins
returns-then-self-clause-begins g c = barred_from c.self.view_is (over_then true c.self.inside.is_over c.if-self.true) (sym c.self.view_is)

pub returns-in_default-clause-begins : goal.returns-in_default-clause-begins
returns-in_default-clause-begins g c =
    stopped_from c.self.view_is (may_begin true c.self.inside.is_over refl c.if-self.false) (held_not c.in_default.ensures.err) refl c.if-self.false

pub returns-clause-begins : goal.returns-clause-begins
returns-clause-begins g c =
    grown_begins g.L.Log.contents c.take_in.new.self c.self.view_is _ c.take_in.result c.if-self.false c.in-Ok.ensures.ok c.take_in.ensures.takes
