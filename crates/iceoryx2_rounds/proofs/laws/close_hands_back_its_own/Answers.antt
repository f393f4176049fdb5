use Rattle.std.proofs.Common.{refl}
use Rattle.iceoryx2_rounds.proofs.HandedBack.{handed_back}
use Rattle.iceoryx2_rounds.proofs.laws.close_hands_back_its_own.Goals as goal

pub returns : goal.returns
returns c = λ r s word w. handed_back s refl w
