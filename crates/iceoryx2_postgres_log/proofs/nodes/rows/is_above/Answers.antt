use borrow.Author.Tests.{ltb-true}
use Rattle.iceoryx2_postgres_log.proofs.NodeRows.{above_all}
use Rattle.iceoryx2_postgres_log.proofs.nodes.rows.is_above.Goals as goal

pub returns-in-Some : goal.returns-in-Some
returns-in-Some c = λ is.
    above_all c.args.rows.now c.in-Some.field-0-1.now c.in-Some.last.now c.args.node c.requires c.in-Some.ensures.cases.0 (ltb-true _ _ is)
