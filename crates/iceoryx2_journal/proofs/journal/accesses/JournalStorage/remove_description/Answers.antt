use Rattle.std.proofs.Common.{◌∙◌, refl, sym}
use Rattle.iceoryx2_journal.proofs.Begins.{fell, acted}
use Rattle.iceoryx2_journal.proofs.journal.accesses.JournalStorage.remove_description.Goals as goal

pub returns-then-not-begin_as : goal.returns-then-not-begin_as
returns-then-not-begin_as g c = (fell c.begin_as.result c.if-not-begin_as.true refl c.begin_as.ensures.begins, c.begin_as.ensures.hold c.if-not-begin_as.true)

pub returns : goal.returns
returns g c = (acted c.self.view_is c.begin_as.result c.if-not-begin_as.false c.begin_as.ensures.begins c.remove_description.ensures.logged refl refl refl, c.remove_description.ensures.free ∙ sym (c.begin_as.ensures.was_free c.if-not-begin_as.false))
