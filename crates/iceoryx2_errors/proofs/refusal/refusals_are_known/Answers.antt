use Rattle.iceoryx2_errors.proofs.Known.{is_known}
use Rattle.iceoryx2_errors.proofs.refusal.refusals_are_known.Goals as goal

pub returns : goal.returns
returns c = is_known
