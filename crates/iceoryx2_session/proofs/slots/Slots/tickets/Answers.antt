use Rattle.std.proofs.Common.{◌∙◌, ap, arith, refl}
use Rattle.iceoryx2_session.specs.Slots.{tickets_of}
use Rattle.iceoryx2_session.proofs.Gathering.{all_gathered, none_more, one_more}
use Rattle.iceoryx2_session.proofs.slots.Slots.tickets.Goals as goal
use Rattle.iceoryx2_session.proofs.slots.Slots.tickets.Goals.{in-Some, in_default}

pub loop-place-init : goal.loop-place-init
loop-place-init c = record { gathered = refl; count = omega arith; room = refl }

pub bounds-tickets-count : goal.bounds-tickets-count
bounds-tickets-count c = omega (arith, c.loop-place.invariant.count, c.loop-place-test.true, c.self.invariant)

pub loop-place-preserved : goal.loop-place-preserved
loop-place-preserved c = elim c.match-place.branch [
  | in-Some w ↦ one_more w.in-Some.registration c.place-item.result w.ticket.result c.loop-place.invariant (omega (arith, c.loop-place-test.true, c.type_inv.place-items)) c.type_inv.place-items w.in-Some.is w.ticket.ensures w.tickets-is w.count-is
  | in_default w ↦ none_more c.place-item.result c.loop-place.invariant (omega (arith, c.loop-place-test.true, c.type_inv.place-items)) w.in_default.is w.tickets-is w.count-is
]

pub returns-clause-tickets : goal.returns-clause-tickets
returns-clause-tickets c = all_gathered c.loop-place.invariant (omega (arith, c.loop-place-test.false)) ∙ ap tickets_of c.self.view_is

pub returns-clause-count : goal.returns-clause-count
returns-clause-count c = omega (arith, c.loop-place.invariant.count, c.loop-place.auto.place-index-end, c.self.invariant)
