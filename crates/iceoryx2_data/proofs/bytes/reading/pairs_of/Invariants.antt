use Rattle.std.proofs.Common.{◌-◌}
use Rattle.iceoryx2_data.specs.Reading.{pairs_at}
use Rattle.iceoryx2_data.proofs.Pairs.{Stands}
use Rattle.iceoryx2_data.proofs.bytes.reading.pairs_of.Given as goal

abbrev pub invariant-loop : goal.invariant-loop
invariant-loop l = Stands l.pairs (l.count - l.counter) l.rest (pairs_at l.count l.bytes)
