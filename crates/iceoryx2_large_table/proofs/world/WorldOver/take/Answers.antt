use Rattle.std.proofs.Common.{sym, subst}
use Rattle.std.specs.Ordering.{nat_cmp}
use Rattle.iceoryx2_world.specs.Orders.{hash_cmp, place_cmp, tag_cmp}
use Rattle.iceoryx2_world.specs.World.{World}
use Rattle.iceoryx2_world.specs.Batches.{IsPeerStep}
use Rattle.iceoryx2_table.specs.ServicesState.{ServicesState, world_with}
use Rattle.iceoryx2_table.proofs.PeerSteps.{may_be_taken}
use Rattle.iceoryx2_large_table.proofs.world.WorldOver.take.Goals as goal

pub returns : goal.returns
returns g c =
    let tags = g.M.Tags.FiniteMap.seen tag_cmp c.self.inside.tags in
    let tickets = g.M.Tickets.FiniteMap.seen nat_cmp c.self.inside.tickets in
    let old : ServicesState = record {
      rows = g.M.Rows.FiniteMap.seen hash_cmp c.self.inside.services.rows;
      segments = g.M.Segments.FiniteMap.seen hash_cmp c.self.inside.services.segments;
      phases = g.M.Phases.FiniteMap.seen place_cmp c.self.inside.services.phases;
      counter = c.self.inside.services.counter;
    } in
    let new : ServicesState = record {
      rows = g.M.Rows.FiniteMap.seen hash_cmp c.take-taken.new.services.rows;
      segments = g.M.Segments.FiniteMap.seen hash_cmp c.take-taken.new.services.segments;
      phases = g.M.Phases.FiniteMap.seen place_cmp c.take-taken.new.services.phases;
      counter = c.take-taken.new.services.counter;
    } in
    let x = c.args.step.now in
    let n = c.args.skipped in
    let is = may_be_taken tags tickets n old new x c.take-taken.result c.take-taken.ensures.limits c.take-taken.ensures.effect in
    subst (λ (w : World). IsPeerStep (w, n) x (world_with new tags tickets, c.count_after.result)) c.self.view_is
    (subst (λ k. IsPeerStep (world_with old tags tickets, n) x (world_with new tags tickets, k)) (sym c.count_after.ensures) is)
