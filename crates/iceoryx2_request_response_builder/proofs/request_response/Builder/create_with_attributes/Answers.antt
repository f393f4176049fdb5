use Rattle.std.proofs.Common.{refl}
use Rattle.iceoryx2_rounds.proofs.JoinedGrants.{created_of, with_types, without_types}
use Rattle.iceoryx2_rounds.specs.Patterns.{is_request_response}
use Rattle.iceoryx2_request_response_builder.proofs.request_response.Builder.create_with_attributes.Goals as goal

pub returns-in_default : goal.returns-in_default
returns-in_default g c = without_types

pub into_factory-requires : goal.into_factory-requires
into_factory-requires g c = created_of is_request_response c.in-Ok.caller _ c.create_once.ensures refl

pub returns : goal.returns
returns g c =
    let made = rw (c.in-Ok.ensures.1, c.attributes.ensures.value, c.in-Ok.ensures.0) at c.create_once.ensures in
    rw (c.into_factory.ensures) (with_types made)
