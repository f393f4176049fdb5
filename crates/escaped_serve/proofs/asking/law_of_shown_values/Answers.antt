use Rattle.escaped_serve.proofs.AskingValues.{value_shown}
use Rattle.escaped_serve.proofs.asking.law_of_shown_values.Goals as goal

pub returns : goal.returns
returns g c = λ takes value is. value_shown takes value is
