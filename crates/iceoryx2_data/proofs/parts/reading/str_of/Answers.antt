use Rattle.iceoryx2_data.specs.PartReading.{text_at}
use Rattle.std.proofs.Common.{rules}
use Rattle.iceoryx2_data.proofs.parts.reading.str_of.Goals as goal

pub returns-clause-limits : goal.returns-clause-limits
returns-clause-limits c = search rules

pub returns-clause-text : goal.returns-clause-text
unfolding text_at
returns-clause-text c = search rules
