use Rattle.iceoryx2_rounds.proofs.Kept.{refused_create_call_keeps}
use Rattle.iceoryx2_rounds.proofs.laws.refused_create_gives_back.Goals as goal

pub returns : goal.returns
returns g c = λ m caller word error w. refused_create_call_keeps w
