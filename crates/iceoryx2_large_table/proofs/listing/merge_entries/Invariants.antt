use Rattle.std.proofs.Common.{◌≡◌, ◌+◌, ◌++◌, length}
use Rattle.std.specs.FinMap as map
use Rattle.iceoryx2_world.specs.Orders.{hash_cmp}
use Rattle.iceoryx2_table.specs.Merge.{merge}
use Rattle.iceoryx2_large_table.proofs.listing.merge_entries.Given as goal

abbrev pub invariant-loop-entries : goal.invariant-loop-entries
invariant-loop-entries g l =
    l.entries.items ++ merge (g.R.FiniteMap.rest hash_cmp l.rows l.row) (g.S.FiniteMap.rest hash_cmp l.segments l.segment)
    ≡ merge (map.entries (g.R.FiniteMap.seen hash_cmp l.rows)) (map.entries (g.S.FiniteMap.seen hash_cmp l.segments))

abbrev pub decreases-loop-entries : goal.decreases-loop-entries
decreases-loop-entries g l =
    length (g.R.FiniteMap.rest hash_cmp l.rows l.row) + length (g.S.FiniteMap.rest hash_cmp l.segments l.segment)
