use Rattle.iceoryx2_rounds.proofs.Left.{refused_call_gives_back}
use Rattle.iceoryx2_rounds.proofs.laws.refused_open_or_create_gives_back.Goals as goal

pub returns : goal.returns
returns g c = λ call word refusal. refused_call_gives_back call
