use Rattle.std.proofs.Common.{rules}
use Rattle.iceoryx2_rounds.proofs.zeros.raise_zero.Goals as goal

pub returns-then-value-eq0 : goal.returns-then-value-eq0
returns-then-value-eq0 c = search rules
