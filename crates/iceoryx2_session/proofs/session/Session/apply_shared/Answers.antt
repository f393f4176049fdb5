use Rattle.iceoryx2_session.proofs.Shown.{goes_along, goes_in_world}
use Rattle.iceoryx2_session.proofs.StandingSlots.{agree_in_world, standing_in_world, promised_in_world}
use Rattle.iceoryx2_session.proofs.OwnedTickets.{owns_in_world}
use Rattle.iceoryx2_session.proofs.session.Session.apply_shared.Goals as goal

pub returns-clause-along : goal.returns-clause-along
returns-clause-along g c = goes_along {world = g.S.WorldStorage.world} c.dispatch.ensures

pub returns-clause-nodes : goal.returns-clause-nodes
returns-clause-nodes g c = (goes_in_world g.S.Storage.step g.S.WorldStorage.world g.S.WorldStorage.own g.met.S.WorldStorage.accesses g.met.S.WorldStorage.keeps_own c.dispatch.ensures).1

pub returns-clause-goes : goal.returns-clause-goes
returns-clause-goes g c = (goes_in_world g.S.Storage.step g.S.WorldStorage.world g.S.WorldStorage.own g.met.S.WorldStorage.accesses g.met.S.WorldStorage.keeps_own c.dispatch.ensures).0

pub returns-clause-agrees : goal.returns-clause-agrees
returns-clause-agrees g c = λ agrees. agree_in_world (returns-clause-goes g c) agrees

pub returns-clause-stands : goal.returns-clause-stands
returns-clause-stands g c = λ agrees old mine. (standing_in_world (returns-clause-goes g c) mine agrees old).2

pub returns-clause-owns : goal.returns-clause-owns
returns-clause-owns g c = λ agrees owned. owns_in_world (returns-clause-goes g c) agrees owned

pub returns-clause-promised : goal.returns-clause-promised
returns-clause-promised g c = promised_in_world (returns-clause-goes g c)
