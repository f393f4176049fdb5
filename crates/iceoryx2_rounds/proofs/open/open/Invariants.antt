use Rattle.iceoryx2_access.specs.Run.{Joins}
use Rattle.iceoryx2_rounds.specs.OwnAttributes.{requiring}
use Rattle.iceoryx2_rounds.specs.Opens.{AreFailedRounds}
use Rattle.iceoryx2_rounds.proofs.open.open.Given as goal

abbrev pub invariant-loop-round : goal.invariant-loop-round
invariant-loop-round g l =
    Joins g.S.Storage.step l.fn.storage (AreFailedRounds (requiring l.verifier (g.P.Pattern.meaning l.pattern)) l.caller.node l.caller.hash l._round) l.storage
