use Rattle.std.proofs.Common.{rules}
use Rattle.iceoryx2_testing.proofs.script.ScriptStorage.lock.Goals as goal

pub returns-in_default : goal.returns-in_default
returns-in_default c = search rules
