use Rattle.std.proofs.Common.{rules}
use Rattle.iceoryx2_data.specs.Reading.{event_at}
use Rattle.iceoryx2_data.proofs.bytes.reading.event_of.Goals as goal

pub returns : goal.returns
unfolding event_at
returns c = search rules
