use Rattle.iceoryx2_call_laws.proofs.quiet.Ways.{call_follows, refused_call}
use Rattle.iceoryx2_call_laws.proofs.quiet.After.{create_and_close, opened_again, accepted}
use Rattle.iceoryx2_call_laws.proofs.quiet.Own.{opens_own, opens_again, stands_as_asked}
use Rattle.iceoryx2_call_laws.proofs.quiet_laws.quiet_calls.Goals as goal

pub returns-clause-call : goal.returns-clause-call
returns-clause-call g c = λ call. call_follows call call.way

pub returns-clause-refused : goal.returns-clause-refused
returns-clause-refused g c = refused_call

pub returns-clause-create_and_close : goal.returns-clause-create_and_close
returns-clause-create_and_close g c = create_and_close

pub returns-clause-again : goal.returns-clause-again
returns-clause-again g c = opened_again

pub returns-clause-accepted : goal.returns-clause-accepted
returns-clause-accepted g c = accepted

pub returns-clause-own_settings : goal.returns-clause-own_settings
returns-clause-own_settings g c = opens_own

pub returns-clause-opens_again : goal.returns-clause-opens_again
returns-clause-opens_again g c = opens_again

pub returns-clause-stands_as_asked : goal.returns-clause-stands_as_asked
returns-clause-stands_as_asked g c = stands_as_asked
