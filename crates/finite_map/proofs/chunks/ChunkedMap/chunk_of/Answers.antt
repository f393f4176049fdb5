use Rattle.std.proofs.Common.{rules}
use Rattle.std.proofs.lemmas.Fn.{always_returns_same}
use Rattle.finite_map.specs.Chunks.{first_order}
use Rattle.finite_map.proofs.Spots.{searched_chunks}
use Rattle.finite_map.proofs.chunks.ChunkedMap.chunk_of.Goals as goal

pub returns : goal.returns
returns g c =
    let facts = c.binary_search_by.ensures in
    let by_first = facts.position (λ b. first_order g.K.Ord.cmp c.args.key.now b.entries) (always_returns_same _ _ _ (λ a r h called. search rules)) in
    let keep = c.self.invariant in
    let found = searched_chunks g.K.Ord.cmp g.met.K.Ord.total c.self.inside.chunks.items keep.0 c.args.key.now 64 keep.1 c.binary_search_by.result (rw c.deref.ensures.value at facts.bound) (rw c.deref.ensures.value at by_first) in
    rw (← c.self.view_is) (record { first = found.0; behind = found.1 })
