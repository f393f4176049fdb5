use Rattle.std.proofs.Common.{refl}
use Rattle.iceoryx2_journal.proofs.snapshot.snapshot_of.Goals as goal

pub returns-then-is_same : goal.returns-then-is_same
returns-then-is_same c = record { exact = c.in_ok-entries.copy; is_snapshot = c.in_ok-entries.ensures; same = c.if-is_same.ensures.0 refl }
