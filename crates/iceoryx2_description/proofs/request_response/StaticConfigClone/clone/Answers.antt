use Rattle.std.proofs.Common.{rules}
use Rattle.iceoryx2_description.proofs.request_response.StaticConfigClone.clone.Goals as goal

pub returns : goal.returns
returns c = search rules
