use Rattle.iceoryx2_session.specs.SessionStates.{own_state}
use Rattle.wulameron_serve.specs.Shared.{are_given}
use Rattle.wulameron_serve.proofs.NodeAnswers.{stands_after}
use Rattle.wulameron_serve.proofs.answerer.NodeAnswerer.settle.Goals as goal

pub returns-clause-gives : goal.returns-clause-gives
returns-clause-gives g c = are_given c.go_on.ensures.gives (record { same = c.settle.ensures.slots; changes = c.settle.ensures.after })

pub returns-clause-stands : goal.returns-clause-stands
returns-clause-stands g c = λ before.
    let old = own_state c.go_on.new.self.session in
    let new = own_state c.settle.new.self in
    let done = c.settle.ensures in
    let stands = c.go_on.ensures.stands before in
    stands_after g.S.WorldStorage.world g.S.WorldStorage.own g.S.Viewed.ready c.args.self.now.node old new done.nodes (done.agrees stands.agrees) (done.stands stands.agrees stands.stand)
    (g.met.S.Viewed.ready_settled old.table new.table done.after stands.is_ready) stands
