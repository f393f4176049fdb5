use Rattle.iceoryx2_rounds.proofs.Counts.{open_call_within}
use Rattle.iceoryx2_rounds.proofs.laws.open_is_short.Goals as goal

pub returns : goal.returns
returns g c = λ m node hash word answer. open_call_within m node hash
