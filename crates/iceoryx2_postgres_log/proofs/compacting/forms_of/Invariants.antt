use Rattle.std.proofs.Common.{take}
use Rattle.iceoryx2_postgres_log.specs.Compacting.{AreForms}
use Rattle.iceoryx2_postgres_log.proofs.compacting.forms_of.Given as goal

abbrev pub invariant-loop-entry : goal.invariant-loop-entry
invariant-loop-entry l = AreForms (take l.entry-index l.entries) l.forms.items
