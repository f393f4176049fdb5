use Rattle.std.proofs.Common.{refl}
use Rattle.iceoryx2_journal.specs.Follow.{spent, unspent}
use Rattle.iceoryx2_journal.proofs.follow.spend.Goals as goal

pub returns-then-spend : goal.returns-then-spend
returns-then-spend c = spent c.args.number refl (c.spend.ensures.spent c.if-spend.true)

pub returns-else-spend : goal.returns-else-spend
returns-else-spend c = unspent c.args.number refl (c.spend.ensures.refused c.if-spend.false) (c.spend.ensures.stays c.if-spend.false)
