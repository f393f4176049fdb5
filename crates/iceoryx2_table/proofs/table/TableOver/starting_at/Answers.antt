use Rattle.iceoryx2_world.proofs.agreement.Empty.{empty_agrees}
use Rattle.iceoryx2_table.proofs.table.TableOver.starting_at.Goals as goal

pub returns-clause-agrees : goal.returns-clause-agrees
returns-clause-agrees g c = rw c.starting_at.ensures (empty_agrees c.args.counter)
