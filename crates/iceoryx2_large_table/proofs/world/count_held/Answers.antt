use Rattle.std.proofs.Common.{ap, length, arith}
use Rattle.std.specs.FinMap.{len-entries}
use Rattle.std.specs.Ordering.{nat_cmp}
use Rattle.iceoryx2_large_table.proofs.world.count_held.Goals as goal

pub overflow_add-count : goal.overflow_add-count
overflow_add-count g c =
    omega (arith, c.loop-found.invariant.few, ap length c.in-Some.ensures, c.len-most.ensures, c.len-most.type_inv, len-entries (g.T.FiniteMap.seen nat_cmp c.args.tickets.now))
