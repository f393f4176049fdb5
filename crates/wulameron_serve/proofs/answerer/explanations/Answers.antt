use Rattle.std.proofs.Common.{codes}
use Rattle.wulameron_serve.proofs.NodeAnswers.{with_ending_as_answered}
use Rattle.wulameron_serve.proofs.answerer.explanations.Goals as goal

pub returns : goal.returns
returns g c = λ node line old new command text is.
    with_ending_as_answered g.S.WorldStorage.settles g.S.WorldStorage.shows g.S.WorldStorage.spans g.S.Storage.step g.S.WorldStorage.world node line (codes "\n") is
