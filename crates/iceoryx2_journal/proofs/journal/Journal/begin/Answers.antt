use Rattle.std.proofs.Common.{refl, sym, subst, false}
use Rattle.iceoryx2_journal.specs.Journal.{Begins}
use Rattle.iceoryx2_journal.proofs.Begins.{not_mine, barred_from, compacted_still}
use Rattle.iceoryx2_journal.proofs.journal.Journal.begin.Goals as goal

pub returns-then-not-mine-clause-begins : goal.returns-then-not-mine-clause-begins
returns-then-not-mine-clause-begins g c = barred_from refl (not_mine c.args.mine c.args.self.now.is_over c.if-not-mine.true) refl

pub returns-then-not-begin_reading-clause-begins : goal.returns-then-not-begin_reading-clause-begins
returns-then-not-begin_reading-clause-begins g c =
    subst (λ m. Begins g.L.Log.contents m false c.args.self.now c.begin_reading.new.self) (sym c.if-not-mine.false) c.if-not-begin_reading.ensures.begins

pub returns-clause-begins : goal.returns-clause-begins
returns-clause-begins g c =
    (c.if-not-mine.false, compacted_still _ c.self.view_is c.compact.ensures c.if-not-begin_reading.ensures.begins.1)
