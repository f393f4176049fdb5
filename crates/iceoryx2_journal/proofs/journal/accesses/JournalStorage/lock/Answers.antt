use Rattle.std.proofs.Common.{◌∙◌, refl, sym}
use Rattle.iceoryx2_journal.proofs.Begins.{fell, acted}
use Rattle.iceoryx2_journal.proofs.journal.accesses.JournalStorage.lock.Goals as goal

pub returns-then-not-begin_look_as : goal.returns-then-not-begin_look_as
returns-then-not-begin_look_as g c = (fell c.begin_look_as.result c.if-not-begin_look_as.true refl c.begin_look_as.ensures.begins, c.begin_look_as.ensures.hold c.if-not-begin_look_as.true)

pub returns : goal.returns
returns g c = (acted c.self.view_is c.begin_look_as.result c.if-not-begin_look_as.false c.begin_look_as.ensures.begins c.lock.ensures.logged refl refl refl, c.lock.ensures.free ∙ sym (c.begin_look_as.ensures.was_free c.if-not-begin_look_as.false))
