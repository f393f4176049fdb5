use Rattle.iceoryx2_rounds.proofs.Counts.{create_call_within}
use Rattle.iceoryx2_rounds.proofs.laws.create_is_short.Goals as goal

pub returns : goal.returns
returns g c = λ m caller word answer w. create_call_within m caller.node caller.hash w
