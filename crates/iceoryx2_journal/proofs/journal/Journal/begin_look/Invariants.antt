use Rattle.std.proofs.Common.{◌≡◌, true}
use Rattle.iceoryx2_journal.specs.Journal.{TakesAll}
use Rattle.iceoryx2_journal.proofs.journal.Journal.begin_look.Given as goal

abbrev pub invariant-loop-number : goal.invariant-loop-number
invariant-loop-number g l = (l.mine ≡ true) × TakesAll g.L.Log.contents l.fn.self l.self
