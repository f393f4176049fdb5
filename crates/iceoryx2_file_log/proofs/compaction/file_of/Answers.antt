use Rattle.std.proofs.Common.{refl, length}
use Rattle.iceoryx2_file_log.proofs.Snapshots.{has_snapshot}
use Rattle.iceoryx2_file_log.proofs.compaction.file_of.Goals as goal

pub returns : goal.returns
returns c = has_snapshot c.args.name (record { name = c.args.name; counter = 0; snapshot_length = length c.args.snapshot.now })
    c.args.snapshot.now c.in_ok-bytes.bytes.items c.extend_from_slice.new.self.items refl refl refl
    c.in_ok-bytes.ensures c.in_ok-extend_from_slice.ensures.items
