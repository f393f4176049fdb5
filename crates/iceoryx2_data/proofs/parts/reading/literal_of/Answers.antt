use Rattle.std.proofs.Common.{rules}
use Rattle.iceoryx2_data.specs.PartReading.{literal_at}
use Rattle.iceoryx2_data.proofs.parts.reading.literal_of.Goals as goal

pub returns : goal.returns
unfolding literal_at
returns c = search rules
