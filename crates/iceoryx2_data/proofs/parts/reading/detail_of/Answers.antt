use Rattle.std.proofs.Common.{rules}
use Rattle.iceoryx2_data.specs.PartReading.{detail_at}
use Rattle.iceoryx2_data.proofs.parts.reading.detail_of.Goals as goal

pub returns-in-Ok : goal.returns-in-Ok
unfolding detail_at
returns-in-Ok c = search rules
