use Rattle.std.proofs.Common.{ap, ◌∙◌, List}
use Rattle.std.specs.FinMap as map
use Rattle.finite_map.proofs.Maps.{from_nil}
use Rattle.finite_map.proofs.sorted.SortedVec.new.Goals as goal

pub returns : goal.returns
returns g c = ap (λ (l : List (g.row.K.Denot × g.row.V.Denot)). map.from_sorted {R = g.K.Ord.cmp} l) c.new.ensures.items ∙ from_nil g.K.Ord.cmp
