use Rattle.iceoryx2_call_laws.proofs.calls.Promise.{keeps_promise}
use Rattle.iceoryx2_call_laws.proofs.laws.promise_of_lawful_calls.Goals as goal

pub returns : goal.returns
returns g c = λ call lawful. keeps_promise call lawful
