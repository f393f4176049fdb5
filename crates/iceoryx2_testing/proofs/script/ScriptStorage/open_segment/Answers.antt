use Rattle.std.proofs.Common.{rules}
use Rattle.iceoryx2_testing.proofs.script.ScriptStorage.open_segment.Goals as goal

pub returns-in-Some-OpenSegment : goal.returns-in-Some-OpenSegment
returns-in-Some-OpenSegment c = search rules

pub returns-in_default : goal.returns-in_default
returns-in_default c = search rules

pub returns-in_default-2 : goal.returns-in_default-2
returns-in_default-2 c = search rules
