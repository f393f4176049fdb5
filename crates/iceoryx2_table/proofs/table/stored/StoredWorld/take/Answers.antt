use Rattle.std.proofs.Common.{sym, subst}
use Rattle.std.specs.Ordering.{nat_cmp}
use Rattle.finite_map.specs.Sorted.{map_of}
use Rattle.iceoryx2_world.specs.Orders.{tag_cmp}
use Rattle.iceoryx2_world.specs.World.{World}
use Rattle.iceoryx2_table.specs.ServicesState.{world_with}
use Rattle.iceoryx2_world.specs.Batches.{IsPeerStep}
use Rattle.iceoryx2_table.proofs.PeerSteps.{may_be_taken}
use Rattle.iceoryx2_table.proofs.table.stored.StoredWorld.take.Goals as goal

pub returns : goal.returns
returns c =
    let tags = map_of tag_cmp c.self.inside.tags in
    let tickets = map_of nat_cmp c.self.inside.tickets in
    let x = c.args.step.now in
    let n = c.args.skipped in
    let new = world_with c.take-taken.new.self tags tickets in
    let is = may_be_taken tags tickets n c.self.inside.services c.take-taken.new.self x c.take-taken.result c.take-taken.ensures.limits c.take-taken.ensures.effect in
    subst (λ (w : World). IsPeerStep (w, n) x (new, c.count_after.result)) c.self.view_is
    (subst (λ k. IsPeerStep (world_with c.self.inside.services tags tickets, n) x (new, k)) (sym c.count_after.ensures) is)
