use Rattle.iceoryx2_postgres_log.proofs.Rows.{why_none}
use Rattle.iceoryx2_postgres_log.proofs.first.first_of.Goals as goal

pub returns-in-Err-clause-err : goal.returns-in-Err-clause-err
returns-in-Err-clause-err c =
    why_none c.args.rows.now.items c.in-Some.row.now c.as_slice.result.now c.in-Err.why c.in-Some.ensures.item.3.0 c.in-Some.ensures.lookup
    c.as_slice.ensures c.in-Err.ensures.only c.in-Err.ensures.err
