use Rattle.std.proofs.Common.{rules}
use Rattle.iceoryx2_data.specs.PartReading.{counted_at}
use Rattle.iceoryx2_data.specs.Reading.{attributes_at}
use Rattle.iceoryx2_data.proofs.bytes.reading.attributes_of.Goals as goal

pub returns : goal.returns
unfolding counted_at attributes_at
returns c = search rules
