use Rattle.std.proofs.Common.{◌≡◌, take}
use Rattle.std.specs.List.{flat_map}
use Rattle.wulameron_place.specs.Dead.{number_if_dead}
use Rattle.wulameron_place.proofs.dead.dead_of.Given as goal

abbrev pub invariant-loop-status : goal.invariant-loop-status
invariant-loop-status l = l.dead.items ≡ flat_map number_if_dead (take l.status-index l.nodes)
