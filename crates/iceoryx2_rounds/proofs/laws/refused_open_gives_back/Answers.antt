use Rattle.iceoryx2_rounds.proofs.Kept.{refused_open_call_keeps}
use Rattle.iceoryx2_rounds.proofs.laws.refused_open_gives_back.Goals as goal

pub returns : goal.returns
returns g c = λ m node hash word error. refused_open_call_keeps
