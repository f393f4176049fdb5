use Rattle.std.proofs.Common.{◌≡◌}
use Rattle.iceoryx2_journal.specs.Taking.{is_own}
use Rattle.iceoryx2_world.specs.Interference.{Rely}
use Rattle.wulameron_place.proofs.clean.clean_nodes.Given as goal

abbrev pub invariant-loop-node : goal.invariant-loop-node
invariant-loop-node g l =
    Rely (is_own l.fn.journal.nodes) l.fn.journal.world l.journal.world × (l.journal.nodes ≡ l.fn.journal.nodes)
