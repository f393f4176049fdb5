use Rattle.std.proofs.Common.{take}
use Rattle.iceoryx2_file_log.specs.Compaction.{AreForms}
use Rattle.iceoryx2_file_log.proofs.compaction.forms_of.Given as goal

-- the forms of what was passed
abbrev pub invariant-loop-entry : goal.invariant-loop-entry
invariant-loop-entry l = AreForms (take l.entry-index l.entries) l.bytes.items
