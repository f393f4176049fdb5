use Rattle.std.proofs.Common.{true, false, Ok, Err}
use Rattle.iceoryx2_session.specs.SessionStates.{own_state}
use Rattle.wulameron_serve.proofs.Wakes.{still}
use Rattle.wulameron_serve.specs.declared.holding.WaitError.TheVariants as wait
use Rattle.wulameron_serve.proofs.holding.take_piece.Goals as goal

pub returns-then-eq : goal.returns-then-eq
returns-then-eq g c = still g.S.WorldStorage.settles g.S.WorldStorage.shows (own_state c.args.answerer.now.session) (Ok true)

pub returns-in-Ok-eq0 : goal.returns-in-Ok-eq0
returns-in-Ok-eq0 g c = still g.S.WorldStorage.settles g.S.WorldStorage.shows (own_state c.args.answerer.now.session) (Ok false)

pub returns-else-eq : goal.returns-else-eq
returns-else-eq g c = still g.S.WorldStorage.settles g.S.WorldStorage.shows (own_state c.args.answerer.now.session) (Err (wait.Reading c.of_reading.result))
