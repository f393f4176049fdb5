use Rattle.std.proofs.Common.{rules}
use Rattle.iceoryx2_data.proofs.bytes.reading.name_of.Goals as goal

pub returns-in_err-text : goal.returns-in_err-text
returns-in_err-text c = search rules

pub from_text-requires : goal.from_text-requires
from_text-requires c = search rules

pub returns : goal.returns
returns c = search rules
