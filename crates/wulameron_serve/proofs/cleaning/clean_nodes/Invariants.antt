use Rattle.std.proofs.Common.{take}
use Rattle.iceoryx2_session.specs.CommandWords.{SpansSession}
use Rattle.iceoryx2_session.specs.SessionStates.{own_state}
use Rattle.wulameron_serve.specs.Cleaning.{CleansAll}
use Rattle.wulameron_serve.proofs.cleaning.clean_nodes.Given as goal

abbrev pub invariant-loop-node : goal.invariant-loop-node
invariant-loop-node g l =
    CleansAll g.S.WorldStorage.shows g.S.WorldStorage.world (take l.node-index l.nodes) (own_state l.fn.session) l.outcome (own_state l.session)
    × SpansSession g.S.WorldStorage.shows (own_state l.fn.session) (own_state l.session)
