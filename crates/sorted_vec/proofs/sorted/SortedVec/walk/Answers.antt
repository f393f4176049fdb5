use Rattle.std.proofs.Common.{ap, ◌∙◌}
use Rattle.finite_map.specs.Sorted.{Sorted}
use Rattle.std_collections.specs.Map.Iter.{deref}
use Rattle.std_collections.proofs.IterRuns.{shows_in_order}
use Rattle.sorted_vec.proofs.Walks.{walk_all}
use Rattle.sorted_vec.proofs.sorted.SortedVec.walk.Goals as goal

pub returns-clause-rest : goal.returns-clause-rest
returns-clause-rest g c =
    let first = c.entries.ensures ∙ ap (λ (x : Sorted g.row.K.Denot g.row.V.Denot). x.entries) c.piece.ensures in
    rw (← c.self.view_is) (c.over.ensures ∙ walk_all g.K.Ord.cmp g.met.K.Ord.total c.self.inside.pieces c.self.invariant.sorted c.self.invariant.some c.entries.result.now c.others.result.now first c.others.ensures)

pub returns-clause-runs : goal.returns-clause-runs
returns-clause-runs g c = shows_in_order deref
