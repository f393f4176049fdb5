use Rattle.std.proofs.Common.{ap, ◌∙◌, List}
use Rattle.finite_map.specs.Sorted.{Sorted}
use Rattle.finite_map.proofs.Maps.{from_nil}
use Rattle.finite_map.specs.Chunks.{chunked}
use Rattle.finite_map.proofs.chunks.ChunkedMapFiniteMap.new.Goals as goal

pub returns : goal.returns
returns g c = ap (λ (l : List (Sorted g.row.K.Denot g.row.V.Denot)). chunked g.K.Ord.cmp l) c.new.ensures.items ∙ from_nil g.K.Ord.cmp
