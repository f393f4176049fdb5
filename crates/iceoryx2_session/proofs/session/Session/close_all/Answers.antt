use Rattle.std.proofs.Common.{arith}
use Rattle.iceoryx2_session.proofs.Finishing.{begins, goes_on, finished}
use Rattle.iceoryx2_session.proofs.StandingSlots.{closed_in_world}
use Rattle.iceoryx2_session.proofs.Shown.{slots_in_world}
use Rattle.iceoryx2_session.proofs.session.Session.close_all.Goals as goal

pub loop-slot-init : goal.loop-slot-init
loop-slot-init g c = begins g.S.Storage.step c.args.self.storage c.args.self.slots

pub loop-slot-preserved : goal.loop-slot-preserved
loop-slot-preserved g c =
    goes_on g.S.Storage.step c.args.self.storage c.loop-slot.storage c.close_slot.new.storage c.args.self.slots c.loop-slot.slots c.close_slot.new.slots c.loop-slot.slot
    c.loop-slot.invariant c.close_slot.ensures.closed c.close_slot.ensures.after

pub returns-clause-own : goal.returns-clause-own
returns-clause-own g c =
    finished g.S.Storage.step c.args.self.storage c.loop-slot.storage c.args.self.slots c.loop-slot.slots c.loop-slot.slot c.loop-slot.invariant (omega arith) c.destroy.ensures

pub returns-clause-nodes : goal.returns-clause-nodes
returns-clause-nodes g c = (slots_in_world g.S.Storage.step g.S.WorldStorage.world g.S.WorldStorage.own g.met.S.WorldStorage.accesses g.met.S.WorldStorage.keeps_own (returns-clause-own g c)).1

pub returns-clause-closes : goal.returns-clause-closes
returns-clause-closes g c = (slots_in_world g.S.Storage.step g.S.WorldStorage.world g.S.WorldStorage.own g.met.S.WorldStorage.accesses g.met.S.WorldStorage.keeps_own (returns-clause-own g c)).0

pub returns-clause-agrees : goal.returns-clause-agrees
returns-clause-agrees g c = λ agrees. closed_in_world (returns-clause-closes g c) agrees
