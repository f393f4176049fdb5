use Rattle.std.proofs.Common.{rules}
use Rattle.std.proofs.lemmas.Fn.{always_returns_same}
use Rattle.finite_map.specs.Chunks.{first_order}
use Rattle.sorted_vec.proofs.Search.{searched_behind}
use Rattle.sorted_vec.proofs.sorted.SortedVec.piece_of.Goals as goal

pub returns : goal.returns
returns g c =
    let facts = c.binary_search_by.ensures in
    let by_first = facts.position (λ b. first_order g.K.Ord.cmp c.args.key.now b.entries) (always_returns_same _ _ _ (λ a r h called. search rules)) in
    let keep = c.self.invariant in
    let found = searched_behind g.K.Ord.cmp g.met.K.Ord.total c.args.key.now c.self.inside.pieces keep.sorted keep.some c.self.inside.most keep.shaped c.binary_search_by.result (rw c.others.ensures at facts.bound) (rw c.others.ensures at by_first) in
    rw (← c.self.view_is) (record { first = found.0; within = found.1 })
