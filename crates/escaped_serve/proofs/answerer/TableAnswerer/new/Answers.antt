use Rattle.std.proofs.Common.{ap}
use Rattle.iceoryx2_session.specs.SessionStates.{own_state}
use Rattle.iceoryx2_world.specs.Tables.{TableState}
use Rattle.escaped_serve.proofs.Answering.{shows_first}
use Rattle.escaped_serve.proofs.answerer.TableAnswerer.new.Goals as goal

pub returns : goal.returns
returns c =
    let made = c.new.ensures.state in
    shows_first (own_state c.new-2.result) c.default.result c.new.result c.new-2.ensures.state c.default.ensures c.new-2.ensures.stands
    (c.new-2.ensures.fresh 0 (ap (λ (t : TableState). t.world) made) (ap (λ (t : TableState). t.waiting) made))
