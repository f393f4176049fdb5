use Rattle.std.proofs.Common.{inl, refl, subst}
use Rattle.iceoryx2_world.specs.Orders.{hash_exact}
use Rattle.iceoryx2_world.specs.declared.world.Phase.{Phase}
use Rattle.iceoryx2_table.specs.ServicesState.{TakesDescription}
use Rattle.iceoryx2_table.proofs.Changes.{description_stays, description_goes}
use Rattle.iceoryx2_large_table.proofs.services.ServicesSteps.remove_description.Goals as goal

pub returns-then-not-may_remove_description : goal.returns-then-not-may_remove_description
returns-then-not-may_remove_description g c = inl (
  description_stays c.args.participant c.args.hash.now refl refl
      (subst (λ (x : Phase). TakesDescription x c.may_remove_description.result) c.position_of-position.ensures.phase c.may_remove_description.ensures.effect)
      c.if-not-may_remove_description.true,
  refl,
)

pub returns : goal.returns
returns g c = (
  description_goes c.args.participant c.args.hash.now refl refl
      (subst (λ (x : Phase). TakesDescription x c.may_remove_description.result) c.position_of-position.ensures.phase c.may_remove_description.ensures.effect)
      c.if-not-may_remove_description.false (c.remove_at.ensures.effect hash_exact) c.set_phase.ensures,
  c.in-Ok.ensures.written,
)
