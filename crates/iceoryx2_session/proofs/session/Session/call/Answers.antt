use Rattle.std.proofs.Common.{arith}
use Rattle.iceoryx2_session.specs.Sessions as goes
use Rattle.iceoryx2_session.specs.SessionStates.{own_state}
use Rattle.iceoryx2_session.proofs.Places.{when_true, when_false}
use Rattle.iceoryx2_session.proofs.Commands.{calling, refusing}
use Rattle.iceoryx2_session.proofs.session.Session.call.Goals as goal

pub returns-then-slot-ge-SLOTS : goal.returns-then-slot-ge-SLOTS
returns-then-slot-ge-SLOTS g c = goes.call_past (omega arith)

pub returns-then-is_taken : goal.returns-then-is_taken
returns-then-is_taken g c = goes.call_taken (when_true _ c.is_taken.result c.is_taken.ensures c.if-is_taken.true)

pub build-requires-clause-free : goal.build-requires-clause-free
build-requires-clause-free g c = when_false _ c.is_taken.result c.is_taken.ensures c.if-is_taken.false

pub returns-in-Ok : goal.returns-in-Ok
returns-in-Ok g c =
    let opened = c.in-Ok.ensures in
    calling g.S.Storage.step g.S.WorldStorage.world (own_state c.args.self.now) c.args.call opened.0 c.in-Ok.number c.build.new.storage c.build.new.slots
    (when_false _ c.is_taken.result c.is_taken.ensures c.if-is_taken.false) opened.2 opened.1 opened.3

pub returns-in-Err : goal.returns-in-Err
returns-in-Err g c =
    refusing g.S.Storage.step g.S.WorldStorage.world (own_state c.args.self.now) c.args.call c.in-Err.refusal c.build.new.storage c.build.new.slots
    (when_false _ c.is_taken.result c.is_taken.ensures c.if-is_taken.false) c.in-Err.ensures.0 c.in-Err.ensures.1
