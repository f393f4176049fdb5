use Rattle.iceoryx2_session.specs.CommandWords.{SpansSession}
use Rattle.iceoryx2_session.specs.SessionStates.{own_state}
use Rattle.wulameron_serve.proofs.dead.clean_dead.Given as goal

abbrev pub invariant-loop-node : goal.invariant-loop-node
invariant-loop-node g l = SpansSession g.S.WorldStorage.shows (own_state l.fn.session) (own_state l.session)
