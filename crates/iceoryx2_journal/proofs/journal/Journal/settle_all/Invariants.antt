use Rattle.std.specs.Prelude.{Ok}
use Rattle.iceoryx2_journal.specs.Owed.{SettlesBy}
use Rattle.iceoryx2_journal.specs.Journal.{IsJournalAccess, KeepsHold}
use Rattle.iceoryx2_journal.proofs.journal.Journal.settle_all.Given as goal

abbrev pub invariant-loop : goal.invariant-loop
invariant-loop g l = SettlesBy l.node l.spared (λ j. j.world) (IsJournalAccess g.L.Log.contents) (Ok l.cleaned) l.fn.self l.self × KeepsHold g.L.Log.held l.fn.self l.self
