use Rattle.std.proofs.Common.{rules}
use Rattle.iceoryx2_types.proofs.types.detail.TypeDetail.with_alignment.Goals as goal

pub returns-clause-value : goal.returns-clause-value
returns-clause-value c = search rules
