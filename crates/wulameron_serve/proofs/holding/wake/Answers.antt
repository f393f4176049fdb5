use Rattle.std.proofs.Common.{Ok}
use Rattle.iceoryx2_session.specs.SessionStates.{own_state}
use Rattle.wulameron_serve.proofs.Wakes.{still}
use Rattle.wulameron_serve.proofs.holding.wake.Goals as goal

pub returns-then-is_none : goal.returns-then-is_none
returns-then-is_none g c = still g.S.WorldStorage.settles g.S.WorldStorage.shows (own_state c.args.answerer.now.session) (Ok tt)
