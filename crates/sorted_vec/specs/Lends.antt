-- What a piece, or a list of pieces, ends as, where a `&mut` to one of its values is returned.
use Rattle.std.specs.Prelude.{ℕ, List, slice_set}
use Rattle.std.specs.Borrow.{Lends, Fml, RattleType, MutBor}
use Rattle.finite_map.specs.Sorted.{Sorted}
use Rattle.finite_map.specs.Chunks.{chunk_at, with_value_at}
use Rattle.sorted_vec.specs.contracts.piece.Piece.{the_row}
use Rattle.sorted_vec.specs.contracts.pieces.Pieces.{the_row as pieces_row}

-- once the borrow r ends, the place has the last value written through r
abbrev pub lends_entry : (K V : RattleType) → MutBor (Sorted K.Denot V.Denot) → ℕ → MutBor V.Denot → Fml
lends_entry K V c at r = Lends (the_row K V) V c r (λ v. record c.now { entries = with_value_at c.now.entries at v })

-- the same of an entry of piece i
abbrev pub lends_in : (K V : RattleType) → MutBor (List (Sorted K.Denot V.Denot)) → ℕ → ℕ → MutBor V.Denot → Fml
lends_in K V p i at r = Lends (pieces_row K V) V p r (λ v. slice_set p.now i
    (record (chunk_at p.now i) { entries = with_value_at (chunk_at p.now i).entries at v }))
