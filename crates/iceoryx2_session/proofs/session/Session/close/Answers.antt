use Rattle.std.proofs.Common.{Some, None, subst, sym, arith}
use Rattle.iceoryx2_session.specs.Sessions as goes
use Rattle.iceoryx2_session.specs.SessionStates.{own_state}
use Rattle.iceoryx2_session.specs.Slots.{FreeAt}
use Rattle.iceoryx2_session.proofs.Commands.{let_go, put_back, nothing_to_close}
use Rattle.iceoryx2_session.proofs.SlotLists.{set_here}
use Rattle.iceoryx2_session.proofs.session.Session.close.Goals as goal

pub returns-then-slot-ge-SLOTS : goal.returns-then-slot-ge-SLOTS
returns-then-slot-ge-SLOTS g c = goes.close_past (omega arith)

pub returns-in_default : goal.returns-in_default
returns-in_default g c =
    nothing_to_close g.S.Storage.step g.S.WorldStorage.world (own_state c.args.self.now) c.args.slot c.take.new.self c.in_default.ensures.value c.in_default.ensures.after

pub returns-in-None : goal.returns-in-None
returns-in-None g c =
    let_go g.S.Storage.step g.S.WorldStorage.world (own_state c.args.self.now) c.args.slot c.in-Some.registration c.close.new.storage c.take.new.self
    c.in-Some.ensures.value c.in-Some.ensures.after c.in-None.ensures

pub put-requires-clause-free : goal.put-requires-clause-free
put-requires-clause-free g c =
    subst (λ l. FreeAt l c.args.slot) (sym c.in-Some.ensures.after) (set_here c.args.self.now.slots c.args.slot None (Some c.in-Some.registration) c.in-Some.ensures.value)

pub returns-in-Some-close : goal.returns-in-Some-close
returns-in-Some-close g c =
    put_back g.S.Storage.step g.S.WorldStorage.world (own_state c.args.self.now) c.args.slot c.in-Some.registration c.in-Some-close.registration c.close.new.storage c.take.new.self c.put.new.self
    c.in-Some.ensures.value c.in-Some.ensures.after c.put.ensures.after c.in-Some-close.ensures
