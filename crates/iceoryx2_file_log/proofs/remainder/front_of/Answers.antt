use Rattle.iceoryx2_file_log.proofs.Torn.{whole_begins, same_whole, ok_torn, ok_unfinished, err_whole, err_only, err_memory, err_torn, err_unfinished, err_ends}
use Rattle.iceoryx2_file_log.proofs.remainder.front_of.Goals as goal

pub returns-in-Ok-clause-whole : goal.returns-in-Ok-clause-whole
returns-in-Ok-clause-whole c = whole_begins c.args.bytes.now c.in-Ok.entry c.in-Ok.count c.in-Ok.ensures.found

pub returns-in-Ok-clause-only : goal.returns-in-Ok-clause-only
returns-in-Ok-clause-only c = λ e count b. same_whole (c.in-Ok.entry, c.in-Ok.count) (e, count) (c.in-Ok.ensures.only e count b)

pub returns-in-Ok-clause-torn : goal.returns-in-Ok-clause-torn
returns-in-Ok-clause-torn c = ok_torn c.args.bytes.now c.args.left c.in-Ok.entry c.in-Ok.count c.in-Ok.ensures.found

pub returns-in-Ok-clause-unfinished : goal.returns-in-Ok-clause-unfinished
returns-in-Ok-clause-unfinished c = ok_unfinished c.args.bytes.now c.args.left c.in-Ok.entry c.in-Ok.count c.in-Ok.ensures.found

pub returns-in-Err-clause-whole : goal.returns-in-Err-clause-whole
returns-in-Err-clause-whole c = err_whole c.args.bytes.now c.args.left c.in-Err.error c.refused.result c.refused.ensures.ok

pub returns-in-Err-clause-only : goal.returns-in-Err-clause-only
returns-in-Err-clause-only c = err_only c.args.bytes.now c.args.left c.in-Err.error c.refused.result
    c.in-Err.ensures.only c.refused.ensures.ok

pub returns-in-Err-clause-memory : goal.returns-in-Err-clause-memory
returns-in-Err-clause-memory c = err_memory c.args.bytes.now c.args.left c.in-Err.error c.refused.result
    c.in-Err.ensures.out_of_memory c.refused.ensures.err

pub returns-in-Err-clause-torn : goal.returns-in-Err-clause-torn
returns-in-Err-clause-torn c = err_torn c.args.bytes.now c.args.left c.in-Err.error c.refused.result
    c.in-Err.ensures.cut_short c.in-Err.ensures.out_of_memory c.refused.ensures.ok c.refused.ensures.err

pub returns-in-Err-clause-unfinished : goal.returns-in-Err-clause-unfinished
returns-in-Err-clause-unfinished c = err_unfinished c.args.bytes.now c.args.left c.in-Err.error c.refused.result
    c.in-Err.ensures.cut_short c.in-Err.ensures.out_of_memory c.refused.ensures.ok c.refused.ensures.err

pub returns-in-Ok-clause-ends : goal.returns-in-Ok-clause-ends
returns-in-Ok-clause-ends c = λ quiet le. absurd (quiet c.in-Ok.entry c.in-Ok.count c.in-Ok.ensures.found)

pub returns-in-Err-clause-ends : goal.returns-in-Err-clause-ends
returns-in-Err-clause-ends c = err_ends c.args.bytes.now c.args.left c.in-Err.error c.refused.result
    c.in-Err.ensures.out_of_memory c.refused.ensures.ok c.refused.ensures.err
