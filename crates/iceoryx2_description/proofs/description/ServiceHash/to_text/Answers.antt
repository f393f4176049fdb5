use Rattle.std.proofs.Common.{rules}
use Rattle.iceoryx2_description.proofs.description.ServiceHash.to_text.Goals as goal

pub returns : goal.returns
returns c = search rules
