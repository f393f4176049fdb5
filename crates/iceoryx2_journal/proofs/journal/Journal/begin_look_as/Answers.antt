use Rattle.std.proofs.Common.{subst}
use Rattle.iceoryx2_journal.specs.Journal.{Begins}
use Rattle.iceoryx2_journal.proofs.journal.Journal.begin_look_as.Goals as goal

pub returns-clause-begins : goal.returns-clause-begins
returns-clause-begins g c =
    subst (λ m. Begins g.L.Log.contents m c.begin_look.result c.args.self.now c.begin_look.new.self) c.has_node-mine.ensures c.begin_look.ensures.begins
