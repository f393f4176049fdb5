use Rattle.iceoryx2_session.specs.SessionStates.{own_state}
use Rattle.wulameron_serve.proofs.NodeAnswers.{stands_shown}
use Rattle.wulameron_serve.proofs.answerer.NodeAnswerer.clean_for.Goals as goal

pub returns-clause-stands : goal.returns-clause-stands
returns-clause-stands g c = λ before.
    let old = own_state c.args.self.now.session in
    let new = own_state c.answer_clean.new.session in
    let shown = c.answer_clean.ensures.shows in
    let kept = g.met.S.WorldStorage.keeps_reliance old.table new.table shown.changes in
    stands_shown g.S.WorldStorage.world g.S.WorldStorage.own g.S.Viewed.ready c.args.self.now.node old new shown.same kept.1 kept.0
    (g.met.S.Viewed.ready_shown old.table new.table shown.changes before.is_ready) before
