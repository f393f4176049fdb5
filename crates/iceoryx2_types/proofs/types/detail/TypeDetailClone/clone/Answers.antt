use Rattle.std.proofs.Common.{rules}
use Rattle.iceoryx2_types.proofs.types.detail.TypeDetailClone.clone.Goals as goal

pub returns : goal.returns
returns c = search rules
