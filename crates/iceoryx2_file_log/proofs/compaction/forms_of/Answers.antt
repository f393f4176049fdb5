use Rattle.std.proofs.Common.{arith}
use Rattle.iceoryx2_file_log.proofs.Snapshots.{forms_turn}
use Rattle.iceoryx2_file_log.proofs.compaction.forms_of.Goals as goal

pub loop-entry-preserved : goal.loop-entry-preserved
loop-entry-preserved c = forms_turn c.args.entries.now c.loop-entry.entry-index c.entry-item.result
    c.loop-entry.bytes.items c.in_ok-form.form.items c.extend_from_slice.new.self.items
    c.loop-entry-test.true c.entry-item.is c.loop-entry.invariant c.in_ok-form.ensures.form
    (grind (arith, c.in_ok-extend_from_slice.ensures.items, c.deref.ensures.value))
