use Rattle.std.proofs.Common.{◌≡◌, ◌+◌, ◌≤◌, length}
use Rattle.std.specs.Prelude.{filter}
use Rattle.std.specs.FinMap as map
use Rattle.std.specs.Ordering.{nat_cmp}
use Rattle.iceoryx2_world.specs.World.{belongs}
use Rattle.iceoryx2_large_table.proofs.world.count_held.Given as goal

abbrev pub invariant-loop-found : goal.invariant-loop-found
invariant-loop-found g l =
    let rest = g.T.FiniteMap.rest nat_cmp l.tickets l.cursor in
    let all = map.entries (g.T.FiniteMap.seen nat_cmp l.tickets) in
    record {
      counted : l.count + length (filter (belongs l.node l.hash) rest) ≡ length (filter (belongs l.node l.hash) all);
      few : l.count + length rest ≤ length all;
    }

abbrev pub decreases-loop-found : goal.decreases-loop-found
decreases-loop-found g l = length (g.T.FiniteMap.rest nat_cmp l.tickets l.cursor)
