use Rattle.std.proofs.Common.{refl}
use Rattle.iceoryx2_table.proofs.OwnParts.{open_refused, open_no_ticket, open_starved}
use Rattle.iceoryx2_table.proofs.Recording.{barred, open_not_done, open_done}
use Rattle.iceoryx2_table.proofs.table.stored.StoredWorld.open_segment.Goals as goal

pub returns-in-Some : goal.returns-in-Some
returns-in-Some g c = barred refl refl (open_refused c.args.node c.args.hash.now c.self.view_is c.args.number c.position-position.ensures c.open_refusal.ensures _ c.in-Some.is) refl

pub returns-then-is_err : goal.returns-then-is_err
returns-then-is_err g c = barred refl refl (open_no_ticket c.args.node c.args.hash.now c.self.view_is c.args.number c.position-position.ensures c.open_refusal.ensures c.in_default.is c.reserve.ensures.same) refl

pub returns-in_default-join : goal.returns-in_default-join
returns-in_default-join g c = barred refl refl (open_starved c.args.node c.args.hash.now c.self.view_is c.args.number c.position-position.ensures c.open_refusal.ensures c.in_default.is c.in_default-join.ensures.0 c.reserve.ensures.same) c.in_default-join.ensures.1

pub returns-then-not-joined : goal.returns-then-not-joined
returns-then-not-joined g c = open_not_done c.args.node c.args.hash.now c.self.view_is c.args.number c.position-position.ensures c.open_refusal.ensures c.join.new.self c.in_default.is c.if-not-joined.true c.in-Ok.ensures c.reserve.ensures.same

pub returns : goal.returns
returns g c =
    open_done c.args.node c.args.hash.now c.self.view_is c.args.number c.position-position.ensures c.open_refusal.ensures c.join.new.self c.in_default.is c.if-not-joined.false c.in-Ok.ensures
    c.next_number-ticket.ensures.number c.next_number-ticket.ensures.effect c.insert.ensures.effect c.ticket_for.ensures c.reserve.ensures.same
