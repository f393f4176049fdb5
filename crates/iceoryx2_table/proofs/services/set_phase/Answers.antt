use Rattle.std.proofs.Common.{sym, ap, ◌∙◌}
use Rattle.finite_map.specs.Sorted.{map_of}
use Rattle.iceoryx2_world.specs.declared.world.Phase.{Phase}
use Rattle.iceoryx2_world.specs.Orders.{place_cmp, place_exact}
use Rattle.iceoryx2_world.specs.World.{set_to, unless_idle}
use Rattle.iceoryx2_table.proofs.services.set_phase.Goals as goal

pub returns-in-Idle : goal.returns-in-Idle
returns-in-Idle c = c.remove_at.ensures.effect place_exact ∙ ap (λ (x : Phase). set_to (map_of place_cmp c.args.phases.now) c.args.key (unless_idle x)) (sym c.in-Idle.is)
