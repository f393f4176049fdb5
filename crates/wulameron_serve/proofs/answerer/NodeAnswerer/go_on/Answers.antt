use Rattle.iceoryx2_session.specs.SessionStates.{own_state}
use Rattle.wulameron_serve.specs.Shared.{are_given, none_owed}
use Rattle.wulameron_serve.proofs.NodeAnswers.{resumed_changes, resumed_gives, stands_after}
use Rattle.wulameron_serve.proofs.answerer.NodeAnswerer.go_on.Goals as goal

pub returns-then-not-is_cut-clause-gives : goal.returns-then-not-is_cut-clause-gives
returns-then-not-is_cut-clause-gives g c = none_owed

pub returns-then-not-reclaim-clause-gives : goal.returns-then-not-reclaim-clause-gives
returns-then-not-reclaim-clause-gives g c = none_owed

pub returns-clause-gives : goal.returns-clause-gives
returns-clause-gives g c =
    are_given (resumed_gives g.S.WorldStorage.settles (own_state c.args.self.now.session) (own_state c.resume-stands.new.self) c.resume-stands.result c.resume-stands.ensures.resumes)
    (record { same = c.settle.ensures.slots; changes = c.settle.ensures.after })

pub returns-clause-stands : goal.returns-clause-stands
returns-clause-stands g c = λ before.
    let W = g.S.WorldStorage.world in
    let O = g.S.WorldStorage.own in
    let R = g.S.Viewed.ready in
    let node = c.args.self.now.node in
    let old = own_state c.args.self.now.session in
    let mid = own_state c.resume-stands.new.self in
    let new = own_state c.settle.new.self in
    let went = c.resume-stands.ensures in
    let done = c.settle.ensures in
    let ready = g.met.S.Viewed.ready_settled in
    let stands = stands_after W O R node old mid went.nodes (went.agrees before.agrees) (went.stands before.agrees before.stand)
    (ready old.table mid.table (resumed_changes g.S.WorldStorage.settles old mid c.resume-stands.result went.resumes) before.is_ready) before in
    stands_after W O R node mid new done.nodes (done.agrees stands.agrees) (done.stands stands.agrees stands.stand)
    (ready mid.table new.table done.after stands.is_ready) stands
