use Rattle.iceoryx2_postgres_log.proofs.Copies.{Taken}
use Rattle.iceoryx2_postgres_log.proofs.compacting.take_copies.Given as goal

abbrev pub invariant-loop-form : goal.invariant-loop-form
invariant-loop-form l = Taken l.fn.rows.items l.rest.items l.forms l.form-index l.fn.at l.at
