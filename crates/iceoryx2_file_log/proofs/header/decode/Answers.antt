use Rattle.std.proofs.Common.{arith}
use Rattle.iceoryx2_file_log.proofs.Headers.{some_header, some_not_a_log, some_another, none_header, none_not_a_log, none_another}
use Rattle.iceoryx2_file_log.proofs.header.decode.Goals as goal

pub returns-in-Some-clause-header : goal.returns-in-Some-clause-header
returns-in-Some-clause-header c h = some_header c.args.bytes.now c.in-Some.header h
    (λ i. omega (arith, c.type_inv.bytes i)) c.in-Some.ensures

pub returns-in-Some-clause-not_a_log : goal.returns-in-Some-clause-not_a_log
returns-in-Some-clause-not_a_log c = some_not_a_log c.args.bytes.now c.in-Some.header
    (λ i. omega (arith, c.type_inv.bytes i)) c.in-Some.ensures

pub returns-in-Some-clause-another_version : goal.returns-in-Some-clause-another_version
returns-in-Some-clause-another_version c = some_another c.args.bytes.now c.in-Some.header
    (λ i. omega (arith, c.type_inv.bytes i)) c.in-Some.ensures

pub returns-in-None-clause-header : goal.returns-in-None-clause-header
returns-in-None-clause-header c h = none_header c.args.bytes.now c.fault.result h c.in-None.ensures

pub returns-in-None-clause-not_a_log : goal.returns-in-None-clause-not_a_log
returns-in-None-clause-not_a_log c = none_not_a_log c.args.bytes.now c.fault.result (λ i. omega (arith, c.type_inv.bytes i)) c.fault.ensures

pub returns-in-None-clause-another_version : goal.returns-in-None-clause-another_version
returns-in-None-clause-another_version c = none_another c.args.bytes.now c.fault.result
    (λ i. omega (arith, c.type_inv.bytes i)) c.fault.ensures
