use Rattle.std.proofs.Common.{refl, Option, Some, None}
use Rattle.std.specs.Prelude.{OnSome}
use Rattle.finite_map.proofs.Maps.{map_of_written}
use Rattle.finite_map.proofs.vector.SortedVecFiniteMap.get_mut_at.Goals as goal

always : {T P : Type 0} (o : Option T) → P → OnSome o P
always None p = tt
always (Some x) p = p

pub returns : goal.returns
returns g c = (
  (refl, λ w. always c.get_mut_at.result (map_of_written g.K.Ord.cmp c.args.self.now c.args.key.now w), refl),
  record { writes_back = tt; value = c.get_mut_at.ensures.value },
)
