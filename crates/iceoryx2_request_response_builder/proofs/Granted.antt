-- What is granted is of request-response.
use Rattle.std.proofs.Common.{◌≡◌, true, None, refl}
use Rattle.iceoryx2_types.specs.Types.{Message}
use Rattle.iceoryx2_description.specs.declared.description.MessagingPattern.{MessagingPattern}
use Rattle.iceoryx2_description.specs.declared.description.MessagingPattern.TheVariants as existing
use Rattle.iceoryx2_rounds.specs.Patterns.{is_request_response}
use Rattle.iceoryx2_request_response_builder.specs.RequestResponse.{misfit_of}

pub what_fits : (request response : Message) (pattern : MessagingPattern) → misfit_of request response pattern ≡ None → is_request_response pattern ≡ true
what_fits request response (existing.Event s) e = absurd (cc)
what_fits request response (existing.PublishSubscribe s) e = absurd (cc)
what_fits request response (existing.RequestResponse s) e = refl
