use Rattle.iceoryx2_table.proofs.Merging.{all_listed}
use Rattle.iceoryx2_table.proofs.merge.merge_entries.Goals as goal

pub returns : goal.returns
returns c = all_listed c.args.rows.now c.args.segments.now c.loop-row.row c.loop-row.segment c.loop-row.entries.items c.if-row-rows.false c.if-segment-segments.false c.loop-row.invariant.same
