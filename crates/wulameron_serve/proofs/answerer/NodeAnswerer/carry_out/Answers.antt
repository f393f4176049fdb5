use Rattle.std.proofs.Common.{rules}
use Rattle.iceoryx2_session.specs.SessionStates.{own_state}
use Rattle.wulameron_serve.proofs.NodeAnswers.{made_held, ready_held, stands_after}
use Rattle.wulameron_serve.proofs.answerer.NodeAnswerer.carry_out.Goals as goal

pub returns-clause-held : goal.returns-clause-held
returns-clause-held g c =
    let done = c.apply_held-reply.ensures.own in (
      done,
      made_held g.S.WorldStorage.spans g.S.Storage.step g.S.WorldStorage.world g.S.Viewed.counted g.met.S.Viewed.counted_spanned
          (own_state c.args.self.now.session) (own_state c.apply_held-reply.new.self) c.args.command c.apply_held-reply.result done
          c.counted-before.result c.counted.result c.saturating_sub-made.result (search rules) (search rules) (search rules),
    )

pub returns-clause-stands : goal.returns-clause-stands
returns-clause-stands g c = λ before of_own.
    let done = c.apply_held-reply.ensures in
    let old = own_state c.args.self.now.session in
    let new = own_state c.apply_held-reply.new.self in
    stands_after g.S.WorldStorage.world g.S.WorldStorage.own g.S.Viewed.ready c.args.self.now.node old new done.nodes (done.agrees before.agrees)
    (done.stands before.agrees before.stand of_own)
    (ready_held g.S.WorldStorage.spans g.S.Storage.step g.S.WorldStorage.world g.S.Viewed.ready g.met.S.Viewed.ready_spanned g.met.S.Viewed.ready_after
    old new c.args.command c.apply_held-reply.result done.own before.is_ready) before
