use Rattle.std.proofs.Common.{rules}
use Rattle.iceoryx2_rounds.proofs.base.BuilderWithServiceTypeClone.clone.Goals as goal

pub returns : goal.returns
returns c = search rules
