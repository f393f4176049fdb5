use Rattle.std.proofs.Common.{refl, ◌∙◌}
use Rattle.iceoryx2_session.specs.SessionStates.{own_state}
use Rattle.wulameron_serve.specs.Holding.{asleep}
use Rattle.wulameron_serve.proofs.Wakes.{along}
use Rattle.wulameron_serve.proofs.holding.wait_for_end.Goals as goal

pub loop-init : goal.loop-init
loop-init g c = (asleep, refl)

pub returns-in-Ok-false : goal.returns-in-Ok-false
returns-in-Ok-false g c = record {
  wakes = along g.S.WorldStorage.settles g.S.WorldStorage.shows (own_state c.args.answerer.now.session) (own_state c.loop.answerer.session) (own_state c.take_piece.new.answerer.session)
      c.loop.invariant.0 c.take_piece.ensures.wakes;
  holds = c.in-Ok-false.ensures.holds ∙ c.loop.invariant.1;
}

pub returns-in-Err : goal.returns-in-Err
returns-in-Err g c = record {
  wakes = along g.S.WorldStorage.settles g.S.WorldStorage.shows (own_state c.args.answerer.now.session) (own_state c.loop.answerer.session) (own_state c.take_piece.new.answerer.session)
      c.loop.invariant.0 c.take_piece.ensures.wakes;
  holds = tt;
}

pub loop-preserved : goal.loop-preserved
loop-preserved g c = (
  along g.S.WorldStorage.settles g.S.WorldStorage.shows (own_state c.args.answerer.now.session) (own_state c.loop.answerer.session) (own_state c.take_piece.new.answerer.session)
      c.loop.invariant.0 c.take_piece.ensures.wakes,
  c.in-Ok-true.ensures.holds ∙ c.loop.invariant.1,
)
