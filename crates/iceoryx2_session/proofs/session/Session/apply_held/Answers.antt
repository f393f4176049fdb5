use Rattle.std.proofs.Common.{◌∙◌}
use Rattle.iceoryx2_session.specs.SessionStates.{own_state}
use Rattle.iceoryx2_session.proofs.Held.{own_spanned, goes_held}
use Rattle.iceoryx2_session.proofs.StandingSlots.{agree_in_world, standing_in_world}
use Rattle.iceoryx2_session.proofs.session.Session.apply_held.Goals as goal

pub returns-clause-own : goal.returns-clause-own
returns-clause-own g c = record {
  first = own_state c.begin_call.new.self;
  last = own_state c.apply_shared-reply.new.self;
  begins = c.begin_call.ensures;
  applies = c.apply_shared-reply.ensures.own;
  ends = c.end_call.ensures.spans;
}

pub returns-clause-nodes : goal.returns-clause-nodes
returns-clause-nodes g c =
    own_spanned g.S.WorldStorage.spans g.S.WorldStorage.world g.S.WorldStorage.own g.met.S.WorldStorage.keeps_world (own_state c.apply_shared-reply.new.self) (own_state c.end_call.new.self) c.end_call.ensures.spans
    ∙ c.apply_shared-reply.ensures.nodes
    ∙ own_spanned g.S.WorldStorage.spans g.S.WorldStorage.world g.S.WorldStorage.own g.met.S.WorldStorage.keeps_world (own_state c.args.self.now) (own_state c.begin_call.new.self) c.begin_call.ensures

pub returns-clause-goes : goal.returns-clause-goes
returns-clause-goes g c =
    goes_held g.S.WorldStorage.spans g.S.WorldStorage.world g.S.WorldStorage.own g.met.S.WorldStorage.keeps_world
    (own_state c.args.self.now) (own_state c.begin_call.new.self) (own_state c.apply_shared-reply.new.self) (own_state c.end_call.new.self)
    c.args.command c.apply_shared-reply.result c.begin_call.ensures c.apply_shared-reply.ensures.goes c.end_call.ensures.spans

pub returns-clause-agrees : goal.returns-clause-agrees
returns-clause-agrees g c = λ agrees. agree_in_world (returns-clause-goes g c) agrees

pub returns-clause-stands : goal.returns-clause-stands
returns-clause-stands g c = λ agrees old mine. (standing_in_world (returns-clause-goes g c) mine agrees old).2
