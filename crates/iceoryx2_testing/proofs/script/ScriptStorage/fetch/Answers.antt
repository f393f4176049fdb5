use Rattle.std.proofs.Common.{rules}
use Rattle.iceoryx2_testing.proofs.script.ScriptStorage.fetch.Goals as goal

pub returns-after-pop : goal.returns-after-pop
returns-after-pop c = search rules
