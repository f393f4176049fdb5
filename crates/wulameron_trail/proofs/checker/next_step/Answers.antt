use Rattle.std.proofs.Common.{arith}
use Rattle.wulameron_trail.proofs.Walking.{neither, accessed_step}
use Rattle.wulameron_trail.proofs.checker.next_step.Goals as goal

pub returns-then-is_mark : goal.returns-then-is_mark
returns-then-is_mark c =
    c.marked.ensures c.args.world.now c.in-Whole.entry (c.in_ok-entry.ensures.whole c.in-Whole.entry c.in-Whole.count c.in-Whole.is)
    (c.is_mark.ensures.0 c.if-is_mark.true)

pub returns-else-is_mark : goal.returns-else-is_mark
returns-else-is_mark c =
    accessed_step c.args.snapshot c.args.at c.args.rest.now c.args.world.now c.accessed.new.world c.in-Whole.entry c.in-Whole.count c.accessed.result c.accessed.ensures
    (c.in_ok-entry.ensures.whole c.in-Whole.entry c.in-Whole.count c.in-Whole.is, λ m. let x = c.is_mark.ensures.1 m in let y = c.if-is_mark.false in absurd (cc))

pub returns-in-Unfinished : goal.returns-in-Unfinished
returns-in-Unfinished c =
    let isnt = neither c.in_ok-entry.field-0 c.in-Unfinished.is in (
      λ torn. isnt.0 (c.in_ok-entry.ensures.torn.1 (torn, omega arith)),
      λ e count begins. isnt.1 e count (c.in_ok-entry.ensures.only e count begins),
    )
