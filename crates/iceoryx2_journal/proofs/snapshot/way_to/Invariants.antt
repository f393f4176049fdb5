use Rattle.iceoryx2_journal.specs.Snapshot.{IsSnapshot}
use Rattle.iceoryx2_journal.specs.declared.snapshot.TheConstants.{FIRST_NUMBER}
use Rattle.iceoryx2_journal.proofs.snapshot.way_to.Given as goal

abbrev pub invariant-loop : goal.invariant-loop
invariant-loop l = IsSnapshot FIRST_NUMBER l.entries.items l.copy
