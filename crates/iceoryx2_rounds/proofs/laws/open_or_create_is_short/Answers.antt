use Rattle.iceoryx2_rounds.proofs.RetriedCounts.{open_or_create_call_within}
use Rattle.iceoryx2_rounds.proofs.laws.open_or_create_is_short.Goals as goal

pub returns : goal.returns
returns g c = λ call word answer. open_or_create_call_within call
