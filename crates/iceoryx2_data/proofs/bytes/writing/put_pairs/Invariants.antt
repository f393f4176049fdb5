use Rattle.std.proofs.Common.{◌≡◌, ◌++◌, take}
use Rattle.std.specs.List.{flat_map}
use Rattle.iceoryx2_data.specs.Form as form
use Rattle.iceoryx2_data.proofs.bytes.writing.put_pairs.Given as goal

abbrev pub invariant-loop-pair : goal.invariant-loop-pair
invariant-loop-pair l = l.out.items ≡ l.fn.out.items ++ flat_map form.pair (take l.pair-index l.pairs)
