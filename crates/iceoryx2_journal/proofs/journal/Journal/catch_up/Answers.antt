use Rattle.std.proofs.Common.{◌≡◌, sym, subst}
use Rattle.iceoryx2_world.specs.Interference.{Rely}
use Rattle.iceoryx2_journal.specs.Taking.{is_own}
use Rattle.iceoryx2_journal.specs.Journal.{JournalState}
use Rattle.iceoryx2_journal.proofs.Runs.{begun, not_begun}
use Rattle.iceoryx2_journal.proofs.journal.Journal.catch_up.Goals as goal

pub returns-then-begin-clause-kept : goal.returns-then-begin-clause-kept
returns-then-begin-clause-kept g c = subst (λ (j : JournalState _). Rely (is_own c.args.self.now.nodes) c.args.self.now.world j.world) (sym c.self.view_is) (begun c.if-begin.ensures.begins).0

pub returns-clause-kept : goal.returns-clause-kept
returns-clause-kept g c = (not_begun c.if-begin.ensures.begins).0

pub returns-then-begin-clause-nodes : goal.returns-then-begin-clause-nodes
returns-then-begin-clause-nodes g c = subst (λ (j : JournalState _). j.nodes ≡ c.args.self.now.nodes) (sym c.self.view_is) (begun c.if-begin.ensures.begins).1

pub returns-clause-nodes : goal.returns-clause-nodes
returns-clause-nodes g c = (not_begun c.if-begin.ensures.begins).1
