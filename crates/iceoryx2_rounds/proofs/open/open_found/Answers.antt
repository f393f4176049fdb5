use Rattle.std.proofs.Common.{sym}
use Rattle.iceoryx2_access.proofs.Run.{joins}
use Rattle.iceoryx2_access.specs.Run.{done}
use Rattle.iceoryx2_rounds.proofs.RoundAttributes.{opens}
use Rattle.iceoryx2_rounds.proofs.OpenSteps.{round_of, not_met}
use Rattle.iceoryx2_rounds.proofs.open.open_found.Goals as goal

pub returns-in-Ok : goal.returns-in-Ok
returns-in-Ok g c = let more = c.open_with_tag.ensures in joins (round_of (sym c.in-Ok.ensures) (opens _ _ _ more.is_word)) more.run

pub returns-in-Err : goal.returns-in-Err
returns-in-Err g c = joins (not_met (sym c.in-Err.ensures)) done
