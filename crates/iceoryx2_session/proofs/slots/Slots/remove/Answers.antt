use Rattle.std.proofs.Common.{sym, arith}
use Rattle.iceoryx2_session.proofs.SlotLists.{held_below, set_free}
use Rattle.iceoryx2_session.proofs.slots.Slots.remove.Goals as goal

pub take-requires : goal.take-requires
take-requires c = omega (arith, c.holds.ensures.length, held_below c.args.self.now c.args.slot (sym c.if-holds.ensures.value))

pub returns-clause-after : goal.returns-clause-after
returns-clause-after c = sym (set_free c.args.self.now c.args.slot (sym c.if-holds.ensures.value))
