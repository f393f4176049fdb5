use Rattle.std.proofs.Common.{rules}
use Rattle.iceoryx2_testing.proofs.script.Script.looks.Goals as goal

pub returns : goal.returns
returns c = search rules
