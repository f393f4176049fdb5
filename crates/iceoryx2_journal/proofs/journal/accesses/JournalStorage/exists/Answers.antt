use Rattle.std.proofs.Common.{◌∙◌, refl, sym}
use Rattle.iceoryx2_journal.specs.Logged.{unwritten}
use Rattle.iceoryx2_journal.proofs.Begins.{fell, acted}
use Rattle.iceoryx2_journal.proofs.journal.accesses.JournalStorage.exists.Goals as goal

pub returns-then-not-begin_look : goal.returns-then-not-begin_look
returns-then-not-begin_look g c = (fell c.begin_look.result c.if-not-begin_look.true refl c.begin_look.ensures.begins, c.begin_look.ensures.hold c.if-not-begin_look.true)

pub returns : goal.returns
returns g c = (acted c.self.view_is c.begin_look.result c.if-not-begin_look.false c.begin_look.ensures.begins (unwritten refl c.exists.ensures refl c.let_go.ensures.same) refl refl refl, c.let_go.ensures.held ∙ sym (c.begin_look.ensures.was_free c.if-not-begin_look.false))
