-- What a chunk ends as, where a `&mut` to one of its values is returned.
use Rattle.std.specs.Prelude.{ℕ}
use Rattle.std.specs.Borrow.{Lends, Fml, RattleType, MutBor}
use Rattle.finite_map.specs.Sorted.{Sorted}
use Rattle.finite_map.specs.Chunks.{with_value_at}
use Rattle.finite_map.specs.contracts.chunk.Chunk.{the_row}

-- once the borrow r ends, the place has the last value written through r
abbrev pub lends_entry : (K V : RattleType) → MutBor (Sorted K.Denot V.Denot) → ℕ → MutBor V.Denot → Fml
lends_entry K V c at r = Lends (the_row K V) V c r (λ v. record c.now { entries = with_value_at c.now.entries at v })
