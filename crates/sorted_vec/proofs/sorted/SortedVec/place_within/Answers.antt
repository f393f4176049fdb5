use Rattle.std.proofs.Common.{sym, ap, ◌∙◌}
use Rattle.std.specs.FinMap.{is_sorted}
use Rattle.finite_map.specs.Sorted.{Sorted}
use Rattle.finite_map.proofs.Spots.{sorted_chunk}
use Rattle.sorted_vec.proofs.Search.{found_within}
use Rattle.sorted_vec.proofs.sorted.SortedVec.place_within.Goals as goal

pub place_of-requires : goal.place_of-requires
place_of-requires g c =
    let cs = c.self.inside.pieces in
    let of = rw (← c.self.view_is) at c.requires in
    ap (λ (x : Sorted g.row.K.Denot g.row.V.Denot). is_sorted g.K.Ord.cmp x.entries) c.piece.ensures
    ∙ sorted_chunk g.K.Ord.cmp g.met.K.Ord.total cs c.self.invariant.sorted c.args.key.now c.args.piece of.0

pub returns : goal.returns
returns g c =
    let cs = c.self.inside.pieces in
    let of = rw (← c.self.view_is) at c.requires in
    let found = c.place_of.ensures in
    rw (← c.self.view_is) (found_within g.K.Ord.cmp g.met.K.Ord.total cs c.self.invariant.sorted c.args.key.now c.args.piece c.piece.result.now of (sym c.piece.ensures) c.place_of.result found.bound found.there found.absent)
