use Rattle.std.proofs.Common.{arith}
use Rattle.iceoryx2_log.proofs.Found.{rest_within, begins, found_is, found_not_cut, error_only, error_cut, error_begins}
use Rattle.iceoryx2_log.proofs.form.decode.Goals as goal

pub overflow_sub-result : goal.overflow_sub-result
overflow_sub-result c = rest_within c.args.bytes.now (c.in-Ok.entry, c.in-Ok.rest.now) (λ i. omega (arith, c.type_inv.bytes i)) c.in-Ok.ensures.1

pub returns-in-Ok-clause-found : goal.returns-in-Ok-clause-found
returns-in-Ok-clause-found c = begins c.args.bytes.now (c.in-Ok.entry, c.in-Ok.rest.now) (λ i. omega (arith, c.type_inv.bytes i)) c.in-Ok.ensures.1

pub returns-in-Ok-clause-only : goal.returns-in-Ok-clause-only
returns-in-Ok-clause-only c = found_is c.args.bytes.now (c.in-Ok.entry, c.in-Ok.rest.now) c.in-Ok.ensures.1

pub returns-in-Ok-clause-cut_short : goal.returns-in-Ok-clause-cut_short
returns-in-Ok-clause-cut_short c = found_not_cut c.args.bytes.now (c.in-Ok.entry, c.in-Ok.rest.now) c.in-Ok.ensures.0

pub returns-in-Err-clause-only : goal.returns-in-Err-clause-only
returns-in-Err-clause-only c = error_only c.args.bytes.now c.in-Err.error c.in-Err.ensures

pub returns-in-Err-clause-cut_short : goal.returns-in-Err-clause-cut_short
returns-in-Err-clause-cut_short c = error_cut c.args.bytes.now c.in-Err.error (λ i. omega (arith, c.type_inv.bytes i)) c.in-Err.ensures

pub returns-in-Err-clause-out_of_memory : goal.returns-in-Err-clause-out_of_memory
returns-in-Err-clause-out_of_memory c = error_begins c.args.bytes.now c.in-Err.error (λ i. omega (arith, c.type_inv.bytes i)) c.in-Err.ensures
