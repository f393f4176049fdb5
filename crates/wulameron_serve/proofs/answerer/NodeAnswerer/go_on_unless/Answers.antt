use Rattle.wulameron_serve.specs.Shared.{none_owed}
use Rattle.wulameron_serve.proofs.answerer.NodeAnswerer.go_on_unless.Goals as goal

pub returns-then-was_cut-clause-gives : goal.returns-then-was_cut-clause-gives
returns-then-was_cut-clause-gives g c = none_owed
