use Rattle.std.proofs.Common.{rules}
use Rattle.iceoryx2_data.proofs.parts.reading.DecodeErrorFromAllocError.from.Goals as goal

pub returns : goal.returns
returns c = search rules
