use Rattle.std.proofs.Common.{refl}
use Rattle.iceoryx2_rounds.proofs.JoinedGrants.{with_types, without_types}
use Rattle.iceoryx2_rounds.specs.Patterns.{is_request_response}
use Rattle.iceoryx2_rounds.proofs.Granted.{joined_carries, carried_of}
use Rattle.iceoryx2_request_response_builder.proofs.Granted.{what_fits}
use Rattle.iceoryx2_request_response_builder.proofs.request_response.Builder.open_or_create_with_attributes.Goals as goal

pub returns-in_default : goal.returns-in_default
returns-in_default g c = without_types

pub new-requires : goal.new-requires
new-requires g c = carried_of is_request_response (λ asked d. what_fits asked.request asked.response d.pattern) (λ asked now. refl) (joined_carries c.in-Ok-open_or_create.ensures)

pub returns-in-Ok-open_or_create : goal.returns-in-Ok-open_or_create
returns-in-Ok-open_or_create g c =
    let granted = rw (c.in-Ok.ensures.1, c.in-Ok.ensures.0) at c.in-Ok-open_or_create.ensures in
    rw (c.new.ensures) (with_types granted)

pub returns : goal.returns
returns g c =
    let refused = rw (c.in-Ok.ensures.1, c.in-Ok.ensures.0) at c.in-Err.ensures in
    rw (c.open_or_create_error.ensures) (with_types refused)
