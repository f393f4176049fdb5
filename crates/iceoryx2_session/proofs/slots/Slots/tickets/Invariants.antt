use Rattle.iceoryx2_session.proofs.Gathering.{Gathers}
use Rattle.iceoryx2_session.proofs.slots.Slots.tickets.Given as goal

abbrev pub invariant-loop-place : goal.invariant-loop-place
invariant-loop-place l = Gathers l.place-items l.place-index l.count l.tickets
