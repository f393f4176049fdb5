use Rattle.std.proofs.Common.{arith, sym, ◌∙◌}
use Rattle.iceoryx2_table.proofs.Merging.{only_row, only_segment, row_first, together, segment_first}
use Rattle.iceoryx2_table.proofs.merge.push_next.Goals as goal

pub returns-then-row-rows : goal.returns-then-row-rows
returns-then-row-rows c = record {
  walks = only_segment c.args.rows.now c.args.segments.now c.args.row c.args.segment c.args.entries.now.items c.push.new.entries.items
      c.index-segments-segment.result (omega arith) c.index-segments-segment.is (omega arith) c.in_ok-push.ensures;
}

pub returns-then-segment-segments : goal.returns-then-segment-segments
returns-then-segment-segments c = record {
  walks = only_row c.args.rows.now c.args.segments.now c.args.row c.args.segment c.args.entries.now.items c.push-then-segment-segments.new.entries.items
      c.index-rows-row.result (omega arith) c.index-rows-row.is (omega arith) c.in_ok-push-2.ensures;
}

pub returns-in_ok-push-in-Less : goal.returns-in_ok-push-in-Less
returns-in_ok-push-in-Less c = record {
  walks = row_first c.args.rows.now c.args.segments.now c.args.row c.args.segment c.args.entries.now.items c.push-in-Less.new.entries.items
      c.index-rows-row.result c.index-segments-segment-2.result (omega arith) c.index-rows-row.is (omega arith) c.index-segments-segment-2.is
      (sym c.cmp.ensures ∙ c.in-Less.is) c.in_ok-push-in-Less.ensures;
}

pub returns-in_ok-push-in-Equal : goal.returns-in_ok-push-in-Equal
returns-in_ok-push-in-Equal c = record {
  walks = together c.args.rows.now c.args.segments.now c.args.row c.args.segment c.args.entries.now.items c.push-in-Equal.new.entries.items
      c.index-rows-row.result c.index-segments-segment-2.result (omega arith) c.index-rows-row.is (omega arith) c.index-segments-segment-2.is
      (sym c.cmp.ensures ∙ c.in-Equal.is) c.in_ok-push-in-Equal.ensures;
}

pub returns-in_ok-push-in-Greater : goal.returns-in_ok-push-in-Greater
returns-in_ok-push-in-Greater c = record {
  walks = segment_first c.args.rows.now c.args.segments.now c.args.row c.args.segment c.args.entries.now.items c.push-in-Greater.new.entries.items
      c.index-rows-row.result c.index-segments-segment-2.result (omega arith) c.index-rows-row.is (omega arith) c.index-segments-segment-2.is
      (sym c.cmp.ensures ∙ c.in-Greater.is) c.in_ok-push-in-Greater.ensures;
}
