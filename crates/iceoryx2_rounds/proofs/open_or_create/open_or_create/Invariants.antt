use Rattle.iceoryx2_access.specs.Run.{Joins}
use Rattle.iceoryx2_rounds.specs.OpenOrCreates.{AreRetriedAttempts}
use Rattle.iceoryx2_rounds.specs.AttemptParts.{called_by}
use Rattle.iceoryx2_rounds.proofs.open_or_create.open_or_create.Given as goal

abbrev pub invariant-loop-round : goal.invariant-loop-round
invariant-loop-round g l =
    let call = called_by g.P.Pattern.meaning g.P.Pattern.adjusted g.P.Retries.retried l.fn.pattern l.verifier l.caller in
    Joins g.S.Storage.step l.fn.storage (λ word. AreRetriedAttempts call l._round word l.pattern) l.storage
