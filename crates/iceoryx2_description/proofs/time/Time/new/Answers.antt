use Rattle.std.proofs.Common.{rules}
use Rattle.iceoryx2_description.proofs.time.Time.new.Goals as goal

pub returns-clause-value : goal.returns-clause-value
returns-clause-value c = search rules
