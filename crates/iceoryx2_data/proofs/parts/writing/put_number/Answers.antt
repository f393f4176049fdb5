use Rattle.std.proofs.Common.{rules}
use Rattle.iceoryx2_data.proofs.parts.writing.put_number.Goals as goal

pub returns : goal.returns
returns c = search rules
