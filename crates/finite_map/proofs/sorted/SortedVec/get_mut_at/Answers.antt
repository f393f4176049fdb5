use Rattle.std.proofs.Common.{refl, sym, ◌∙◌}
use Rattle.finite_map.proofs.Ranks.{none_at}
use Rattle.finite_map.proofs.sorted.SortedVec.get_mut_at.Goals as goal

pub returns-in-Err : goal.returns-in-Err
returns-in-Err g c = (refl, record { writes_back = tt; value = sym (none_at _ c.args.key.now c.args.place c.in-Err.field-0 c.requires c.in-Err.is) })

pub value_mut-requires : goal.value_mut-requires
value_mut-requires g c = sym c.requires ∙ c.in-Ok.is
