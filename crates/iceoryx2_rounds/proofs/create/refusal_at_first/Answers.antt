use Rattle.std.proofs.Common.{sym}
use Rattle.iceoryx2_access.proofs.Run.{joins}
use Rattle.iceoryx2_access.specs.Run.{done}
use Rattle.iceoryx2_rounds.proofs.CreateSteps.{begins}
use Rattle.iceoryx2_rounds.specs.Creates.{forbidden}
use Rattle.iceoryx2_rounds.proofs.create.refusal_at_first.Goals as goal

pub returns-in-Some : goal.returns-in-Some
returns-in-Some g c = joins (λ stopped d. forbidden (sym c.in-Some.ensures)) done

pub returns-in-None : goal.returns-in-None
returns-in-None g c = let first = c.precheck.ensures in joins (begins _ _ _ _ _ (sym c.in-None.ensures) first.is_word) first.run
