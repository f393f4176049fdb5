use Rattle.std.proofs.Common.{inl, refl, subst}
use Rattle.iceoryx2_world.specs.Orders.{hash_exact}
use Rattle.iceoryx2_world.specs.declared.world.Phase.{Phase}
use Rattle.iceoryx2_table.specs.ServicesState.{TakesSegment}
use Rattle.iceoryx2_table.proofs.Changes.{segment_stays, segment_goes}
use Rattle.iceoryx2_large_table.proofs.services.ServicesSteps.remove_segment.Goals as goal

pub returns-in_default : goal.returns-in_default
returns-in_default g c = inl (
  segment_stays c.args.participant c.args.hash.now refl refl _
      (subst (λ (x : Phase). TakesSegment x c.without_segment.result) c.position_of-position.ensures.phase c.without_segment.ensures.effect) c.in_default.is,
  refl,
)

pub returns : goal.returns
returns g c = (
  segment_goes c.args.participant c.args.hash.now refl refl _
      (subst (λ (x : Phase). TakesSegment x c.without_segment.result) c.position_of-position.ensures.phase c.without_segment.ensures.effect) c.in-Some.is
      (c.remove_at.ensures.effect hash_exact) c.set_phase.ensures,
  c.in-Ok.ensures.written,
)
