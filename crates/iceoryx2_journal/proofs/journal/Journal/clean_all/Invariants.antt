use Rattle.iceoryx2_journal.specs.Cleaning.{CleansSome}
use Rattle.iceoryx2_journal.specs.Journal.{KeepsHold}
use Rattle.iceoryx2_journal.proofs.journal.Journal.clean_all.Given as goal

abbrev pub invariant-loop : goal.invariant-loop
invariant-loop g l = CleansSome g.L.Log.contents l.node l.fn.self l.cleaned l.self × KeepsHold g.L.Log.held l.fn.self l.self
