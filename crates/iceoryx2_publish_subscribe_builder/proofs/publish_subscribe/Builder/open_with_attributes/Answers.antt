use Rattle.iceoryx2_rounds.proofs.JoinedGrants.{opened_of, with_types, without_types}
use Rattle.iceoryx2_rounds.specs.Patterns.{is_publish_subscribe}
use Rattle.iceoryx2_publish_subscribe_builder.proofs.Granted.{what_fits}
use Rattle.iceoryx2_publish_subscribe_builder.proofs.publish_subscribe.Builder.open_with_attributes.Goals as goal

pub returns-in_default : goal.returns-in_default
returns-in_default g c = without_types

pub into_factory-requires : goal.into_factory-requires
into_factory-requires g c = opened_of is_publish_subscribe _ c.open.ensures (λ d. what_fits _ d.pattern)

pub returns : goal.returns
returns g c =
    let answer = rw (c.in-Ok.ensures.1, c.in-Ok.ensures.0) at c.open.ensures in
    rw (c.into_factory.ensures) (with_types answer)
