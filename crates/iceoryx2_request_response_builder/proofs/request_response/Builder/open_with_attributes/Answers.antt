use Rattle.iceoryx2_rounds.proofs.JoinedGrants.{opened_of, with_types, without_types}
use Rattle.iceoryx2_rounds.specs.Patterns.{is_request_response}
use Rattle.iceoryx2_request_response_builder.proofs.Granted.{what_fits}
use Rattle.iceoryx2_request_response_builder.proofs.request_response.Builder.open_with_attributes.Goals as goal

pub returns-in_default : goal.returns-in_default
returns-in_default g c = without_types

pub into_factory-requires : goal.into_factory-requires
into_factory-requires g c = opened_of is_request_response _ c.open.ensures (λ d. what_fits _ _ d.pattern)

pub returns : goal.returns
returns g c =
    let answer = rw (c.in-Ok.ensures.1, c.in-Ok.ensures.0) at c.open.ensures in
    rw (c.into_factory.ensures) (with_types answer)
