use Rattle.std.proofs.Common.{◌-◌, length, take, drop, ap, ◌∙◌}
use Rattle.finite_map.specs.Sorted.{Sorted}
use Rattle.std_collections.specs.Map.Iter.{deref}
use Rattle.std_collections.proofs.IterRuns.{shows_in_order}
use Rattle.sorted_vec.proofs.Walks.{walk_on, within_piece, from_on}
use Rattle.sorted_vec.proofs.sorted.SortedVec.walk_from.Goals as goal

pub returns-clause-rest : goal.returns-clause-rest
returns-clause-rest g c =
    let cs = c.self.inside.pieces in
    let i = c.place_of-place.result.piece in
    let r = c.place_of-place.result.at in
    let j = c.index.result in
    let es = c.entries-entries.result.now in
    let os = c.others.result.now in
    let stands = (rw (← c.self.view_is) at c.place_of-place.ensures.place).0 in
    let within = within_piece g.K.Ord.cmp cs c.args.key.now i r stands c.self.invariant.some in
    let here = from_on j es ∙ ap (λ n. drop n es) c.index.ensures
    ∙ ap (drop _) (c.entries-entries.ensures ∙ ap (λ (x : Sorted g.row.K.Denot g.row.V.Denot). x.entries) c.piece.ensures) in
    let behind = from_on i os ∙ ap (drop i) c.others.ensures in
    rw (← c.self.view_is) (c.over.ensures ∙ walk_on g.K.Ord.cmp g.met.K.Ord.total cs c.self.invariant.sorted c.args.key.now i r stands within.0 within.1
    (take (length es - j) (drop j es)) (take (length os - i) (drop i os)) here behind)

pub returns-clause-runs : goal.returns-clause-runs
returns-clause-runs g c = shows_in_order deref
