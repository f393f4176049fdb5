use Rattle.std.proofs.Common.{refl}
use Rattle.iceoryx2_session.specs.SessionStates.{own_state}
use Rattle.wulameron_serve.proofs.Factories.{held_by, unheld_by}
use Rattle.wulameron_serve.proofs.holding.hold_call.Goals as goal

pub returns-in-Ok : goal.returns-in-Ok
returns-in-Ok g c =
    held_by g.S.WorldStorage.settles g.S.WorldStorage.shows g.S.WorldStorage.spans g.S.Storage.step g.S.WorldStorage.world c.args.holding.states.now c.args.call
    (own_state c.args.answerer.now.session) (own_state c.carry_out-made.new.self.session) (own_state c.hold_made.new.answerer.session)
    c.carry_out-made.result.reply c.in-Ok.factory.slot c.in-Ok.factory.number c.hold_made.result (g.W.Write.contents c.args.output.now) (g.W.Write.contents c.hold_made.new.output)
    c.carry_out-made.ensures.held.0 c.in-Ok.ensures c.hold_made.ensures

pub returns-in-Err : goal.returns-in-Err
returns-in-Err g c =
    unheld_by g.S.WorldStorage.settles g.S.WorldStorage.shows g.S.WorldStorage.spans g.S.Storage.step g.S.WorldStorage.world c.args.holding.states.now c.args.call
    (own_state c.args.answerer.now.session) (own_state c.carry_out-made.new.self.session)
    c.carry_out-made.result.reply _ (g.W.Write.contents c.args.output.now) (g.W.Write.contents c.args.output.now) c.in-Err.why
    c.carry_out-made.ensures.held.0 c.in-Err.ensures refl refl
