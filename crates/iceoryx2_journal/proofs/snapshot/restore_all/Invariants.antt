use Rattle.std.proofs.Common.{List}
use Rattle.iceoryx2_access.specs.Run.{Run}
use Rattle.iceoryx2_log.specs.Log.{WhereKnown}
use Rattle.iceoryx2_log.specs.declared.entry.Entry.{Entry}
use Rattle.iceoryx2_journal.specs.Follow.{IsFollowed}
use Rattle.iceoryx2_journal.specs.Taking.{Takes}
use Rattle.iceoryx2_journal.proofs.snapshot.restore_all.Given as goal

abbrev pub invariant-loop : goal.invariant-loop
invariant-loop g l = (entries : List Entry) × WhereKnown (Takes entries) (g.L.Log.contents l.fn.log) (g.L.Log.contents l.log) × Run IsFollowed l.fn.world entries l.world
