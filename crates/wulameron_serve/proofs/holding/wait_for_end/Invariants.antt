use Rattle.std.proofs.Common.{◌≡◌}
use Rattle.iceoryx2_session.specs.SessionStates.{own_state}
use Rattle.wulameron_serve.specs.Holding.{Wakes}
use Rattle.wulameron_serve.proofs.holding.wait_for_end.Given as goal

abbrev pub invariant-loop : goal.invariant-loop
invariant-loop g l =
    Wakes g.S.WorldStorage.settles g.S.WorldStorage.shows (own_state l.fn.answerer.session) (own_state l.answerer.session)
    × ((own_state l.answerer.session).slots ≡ (own_state l.fn.answerer.session).slots)
