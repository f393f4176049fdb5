use Rattle.std.proofs.Common.{◌≡◌, ◌++◌, List}
use Rattle.iceoryx2_log.specs.declared.entry.Entry.{Entry}
use Rattle.iceoryx2_postgres_log.specs.Compacting.{CopiesAll}
use Rattle.iceoryx2_postgres_log.proofs.compacting.ask_copies.Given as goal

abbrev pub invariant-loop-round : goal.invariant-loop-round
invariant-loop-round g l = (done : List Entry) × (l.entries ≡ done ++ l.rest)
    × CopiesAll l.fn.at done (g.W.Write.contents l.fn.questions) (g.W.Write.contents l.questions)
    (g.R.Read.remaining l.fn.replies) (g.R.Read.remaining l.replies) l.at
