use Rattle.std.proofs.Common.{subst}
use Rattle.iceoryx2_journal.specs.Journal.{JournalState, IsJournalAccess}
use Rattle.iceoryx2_journal.specs.Owed.{IsOwedOrNone}
use Rattle.iceoryx2_journal.proofs.Settled.{settled_next}
use Rattle.iceoryx2_journal.proofs.journal.Journal.settle_next.Goals as goal

pub returns-clause-next : goal.returns-clause-next
returns-clause-next g c =
    settled_next c.args.node c.args.spared.now (λ j. j.world) (IsJournalAccess g.L.Log.contents) c.args.self.now c.give_back_by.new.storage c.step_of.ensures
    (subst (λ (j : JournalState g.row.L.Denot). IsOwedOrNone j.world c.args.node c.args.spared.now c.owed.result) c.self.view_is c.owed.ensures)
    c.in-Some.is (c.give_back_by.ensures.0, c.give_back_by.ensures.1, c.give_back_by.ensures.2, c.give_back_by.ensures.3.0)
