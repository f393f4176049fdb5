use Rattle.std.proofs.Common.{arith}
use Rattle.explain_serve.proofs.Found.{none_more, none_of_all}
use Rattle.explain_serve.proofs.standing.service_of.Goals as goal

pub loop-entry-preserved : goal.loop-entry-preserved
loop-entry-preserved c =
    none_more c.args.call.now c.args.entries.now c.loop-entry.entry-index c.entry-item.result c.in_ok-description.field-0
    c.loop-entry-test.true c.entry-item.is c.in_ok-description.ensures c.in-None.is c.loop-entry.invariant

pub returns : goal.returns
returns c =
    none_of_all c.args.call.now c.args.entries.now c.loop-entry.entry-index (omega (arith, c.loop-entry-test.false))
    c.loop-entry.invariant
