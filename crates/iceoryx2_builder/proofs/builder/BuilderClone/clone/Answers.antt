use Rattle.std.proofs.Common.{rules}
use Rattle.iceoryx2_builder.proofs.builder.BuilderClone.clone.Goals as goal

pub returns : goal.returns
returns c = search rules
