use Rattle.std.proofs.Common.{rules}
use Rattle.std.proofs.lemmas.Fn.{always_returns_same}
use Rattle.finite_map.proofs.Edits.{searched}
use Rattle.sorted_vec.proofs.piece.search.Goals as goal

pub returns : goal.returns
returns g c =
    let facts = c.binary_search_by.ensures in
    let by_key = facts.position (λ e. g.K.Ord.cmp e.0 c.args.key.now) (always_returns_same _ _ _ (λ a r h called. search rules)) in
    let found = searched g.K.Ord.cmp g.met.K.Ord.total c.args.key.now c.args.entries.now c.requires c.binary_search_by.result facts.bound by_key in
    record { bound = facts.bound; there = found.0; absent = found.1 }
