use Rattle.std.proofs.Common.{true, false, refl, sym}
use Rattle.iceoryx2_journal.proofs.Begins.{held_not, over_then, may_begin, barred_from, stopped_from, grown_begins, freed_still}
use Rattle.iceoryx2_journal.proofs.Runs.{begun, not_begun}
use Rattle.iceoryx2_journal.proofs.journal.Journal.look.Goals as goal

pub returns-then-self-clause-takes : goal.returns-then-self-clause-takes
returns-then-self-clause-takes g c = barred_from c.self.view_is (over_then true c.self.inside.is_over c.if-self.true) (sym c.self.view_is)

pub returns-in_default-clause-takes : goal.returns-in_default-clause-takes
returns-in_default-clause-takes g c =
    stopped_from c.self.view_is (may_begin true c.self.inside.is_over refl c.if-self.false) (held_not c.in_default.ensures.err) refl c.if-self.false

pub returns-then-not-take_in-clause-takes : goal.returns-then-not-take_in-clause-takes
returns-then-not-take_in-clause-takes g c =
    grown_begins g.L.Log.contents c.take_in.new.self c.self.view_is _ false c.if-self.false c.in-Ok.ensures.ok c.if-not-take_in.ensures.takes

pub returns-then-not-take_in-clause-kept : goal.returns-then-not-take_in-clause-kept
returns-then-not-take_in-clause-kept g c =
    (not_begun (grown_begins g.L.Log.contents c.take_in.new.self c.self.view_is _ false c.if-self.false c.in-Ok.ensures.ok c.if-not-take_in.ensures.takes)).0

pub returns-then-not-take_in-clause-nodes : goal.returns-then-not-take_in-clause-nodes
returns-then-not-take_in-clause-nodes g c =
    (not_begun (grown_begins g.L.Log.contents c.take_in.new.self c.self.view_is _ false c.if-self.false c.in-Ok.ensures.ok c.if-not-take_in.ensures.takes)).1

pub returns-clause-takes : goal.returns-clause-takes
returns-clause-takes g c =
    let t = grown_begins g.L.Log.contents c.take_in.new.self c.self.view_is _ true c.if-self.false c.in-Ok.ensures.ok c.if-not-take_in.ensures.takes in
    (refl, freed_still _ c.self-2.view_is c.let_go.ensures.same t.1)

pub returns-clause-kept : goal.returns-clause-kept
returns-clause-kept g c =
    let t = grown_begins g.L.Log.contents c.take_in.new.self c.self.view_is _ true c.if-self.false c.in-Ok.ensures.ok c.if-not-take_in.ensures.takes in
    (begun (refl, freed_still _ c.self-2.view_is c.let_go.ensures.same t.1)).0

pub returns-clause-nodes : goal.returns-clause-nodes
returns-clause-nodes g c =
    let t = grown_begins g.L.Log.contents c.take_in.new.self c.self.view_is _ true c.if-self.false c.in-Ok.ensures.ok c.if-not-take_in.ensures.takes in
    (begun (refl, freed_still _ c.self-2.view_is c.let_go.ensures.same t.1)).1
