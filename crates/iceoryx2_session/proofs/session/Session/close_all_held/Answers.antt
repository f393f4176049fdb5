use Rattle.std.proofs.Common.{List, Option, ap, sym, subst, ◌∙◌}
use Rattle.iceoryx2_access.specs.Registered.{Registered}
use Rattle.iceoryx2_world.specs.Agreement.{Agrees}
use Rattle.iceoryx2_world.specs.World.{World}
use Rattle.iceoryx2_session.specs.SessionStates.{own_state}
use Rattle.iceoryx2_session.specs.Sessions.{SessionOver, ClosesSlotsBy}
use Rattle.iceoryx2_session.proofs.Held.{own_spanned, shown_spanned}
use Rattle.iceoryx2_session.proofs.session.Session.close_all_held.Goals as goal

pub returns-clause-own : goal.returns-clause-own
returns-clause-own g c = record {
  first = (own_state c.begin_call.new.self).table;
  last = c.close_all-storage.result;
  begins = c.begin_call.ensures.changes;
  closes = subst (λ (slots : List (Option Registered)). ClosesSlotsBy g.S.Storage.step (own_state c.begin_call.new.self).table slots c.close_all-storage.result)
      (ap (λ (s : SessionOver g.row.S.Denot). s.slots) c.begin_call.ensures.same) c.close_all-storage.ensures.own;
  ends = c.end_call.ensures.spans;
}

pub returns-clause-nodes : goal.returns-clause-nodes
returns-clause-nodes g c =
    (g.met.S.WorldStorage.keeps_world c.close_all-storage.result c.end_call.new.self c.end_call.ensures.spans).1
    ∙ c.close_all-storage.ensures.nodes
    ∙ own_spanned g.S.WorldStorage.spans g.S.WorldStorage.world g.S.WorldStorage.own g.met.S.WorldStorage.keeps_world (own_state c.args.self) (own_state c.begin_call.new.self) c.begin_call.ensures

pub returns-clause-agrees : goal.returns-clause-agrees
returns-clause-agrees g c = λ agrees.
    let begun = shown_spanned g.S.WorldStorage.spans g.S.WorldStorage.world g.S.WorldStorage.own g.met.S.WorldStorage.keeps_world (own_state c.args.self) (own_state c.begin_call.new.self) c.begin_call.ensures in
    subst (λ (w : World). Agrees w) (sym (g.met.S.WorldStorage.keeps_world c.close_all-storage.result c.end_call.new.self c.end_call.ensures.spans).0)
    (c.close_all-storage.ensures.agrees (subst (λ (s : SessionOver World). Agrees s.table) (sym begun) agrees))
