use Rattle.std.proofs.Common.{sym, ◌∙◌}
use Rattle.iceoryx2_large_table.proofs.Walks.{all_listed, row_alone, segment_alone, row_first, together, segment_first}
use Rattle.iceoryx2_large_table.proofs.listing.merge_entries.Goals as goal

pub returns-in-None-None : goal.returns-in-None-None
returns-in-None-None g c =
    all_listed c.loop-entries.entries.items c.loop-entries.invariant c.in-None-None.ensures c.in-None-None.ensures'

pub loop-entries-preserved-in-Some-None : goal.loop-entries-preserved-in-Some-None
loop-entries-preserved-in-Some-None g c =
    let r = c.in-Some-None.written.0 in
    row_alone c.loop-entries.entries.items c.loop-entries.invariant (r.0.now, r.1.now)
    c.in-Some-None.ensures c.in-Some-None.ensures' c.in_ok-push-in-Some-None.ensures

pub loop-entries-preserved-in-None-Some : goal.loop-entries-preserved-in-None-Some
loop-entries-preserved-in-None-Some g c =
    let s = c.in-None-Some.stored.0 in
    segment_alone c.loop-entries.entries.items c.loop-entries.invariant (s.0.now, s.1.now)
    c.in-None-Some.ensures' c.in-None-Some.ensures c.in_ok-push-in-None-Some.ensures

pub loop-entries-preserved-in-Less : goal.loop-entries-preserved-in-Less
loop-entries-preserved-in-Less g c =
    let r = c.in-Some-Some.written.0 in
    let s = c.in-Some-Some.stored.0 in
    row_first c.loop-entries.entries.items c.loop-entries.invariant (r.0.now, r.1.now) (s.0.now, s.1.now)
    c.in-Some-Some.ensures c.in-Some-Some.ensures' (sym c.cmp.ensures ∙ c.in-Less.is) c.in_ok-push-in-Less.ensures

pub loop-entries-preserved-in-Equal : goal.loop-entries-preserved-in-Equal
loop-entries-preserved-in-Equal g c =
    let r = c.in-Some-Some.written.0 in
    let s = c.in-Some-Some.stored.0 in
    together c.loop-entries.entries.items c.loop-entries.invariant (r.0.now, r.1.now) (s.0.now, s.1.now)
    c.in-Some-Some.ensures c.in-Some-Some.ensures' (sym c.cmp.ensures ∙ c.in-Equal.is) c.in_ok-push-in-Equal.ensures

pub loop-entries-preserved : goal.loop-entries-preserved
loop-entries-preserved g c =
    let r = c.in-Some-Some.written.0 in
    let s = c.in-Some-Some.stored.0 in
    segment_first c.loop-entries.entries.items c.loop-entries.invariant (r.0.now, r.1.now) (s.0.now, s.1.now)
    c.in-Some-Some.ensures c.in-Some-Some.ensures' (sym c.cmp.ensures ∙ c.in-Greater.is) c.in_ok-push-in-Greater.ensures
