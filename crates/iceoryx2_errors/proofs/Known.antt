-- A refusal is read from its text and from its number.
use Rattle.std.proofs.Common.{◌≡◌, ℕ, List, Bool, Option, Some, refl}
use Rattle.std.specs.Prelude.{bytes_eq}
use Rattle.std.specs.List.{find}
use Rattle.iceoryx2_errors.specs.declared.refusal.Refusal.{Refusal}
use Rattle.iceoryx2_errors.specs.declared.refusal.Refusal.TheVariants as refusal
use Rattle.iceoryx2_errors.specs.declared.error.events.EventOpenError.TheVariants as opening
use Rattle.iceoryx2_errors.specs.declared.error.events.EventCreateError.TheVariants as creating
use Rattle.iceoryx2_errors.specs.declared.error.events.EventOpenOrCreateError.TheVariants as event_either
use Rattle.iceoryx2_errors.specs.declared.error.publish_subscribe.PublishSubscribeOpenError.TheVariants as subscribe_opening
use Rattle.iceoryx2_errors.specs.declared.error.publish_subscribe.PublishSubscribeCreateError.TheVariants as subscribe_creating
use Rattle.iceoryx2_errors.specs.declared.error.publish_subscribe.PublishSubscribeOpenOrCreateError.TheVariants as subscribe_either
use Rattle.iceoryx2_errors.specs.declared.error.request_response.RequestResponseOpenError.TheVariants as request_opening
use Rattle.iceoryx2_errors.specs.declared.error.request_response.RequestResponseCreateError.TheVariants as request_creating
use Rattle.iceoryx2_errors.specs.declared.error.request_response.RequestResponseOpenOrCreateError.TheVariants as request_either
use Rattle.iceoryx2_errors.specs.Numbers.{numbered, number_of, refusals}
use Rattle.iceoryx2_errors.specs.Texts.{text_of}

abbrev has_text : List ℕ → Refusal → Bool
has_text text refusal = bytes_eq (text_of refusal) text

abbrev pub read : List ℕ → Option Refusal
read text = find (has_text text) refusals

pub is_read : (r : Refusal) → read (text_of r) ≡ Some r
is_read (refusal.EventOpen opening.DoesNotExist) = refl
is_read (refusal.EventCreate creating.ServiceInCorruptedState) = refl
is_read (refusal.EventOpenOrCreate (event_either.EventOpenError opening.DoesNotExist)) = refl
is_read (refusal.EventOpenOrCreate (event_either.EventCreateError creating.ServiceInCorruptedState)) = refl
is_read (refusal.PublishSubscribeOpen subscribe_opening.DoesNotExist) = refl
is_read (refusal.PublishSubscribeCreate subscribe_creating.ServiceInCorruptedState) = refl
is_read (refusal.PublishSubscribeOpenOrCreate (subscribe_either.PublishSubscribeOpenError subscribe_opening.DoesNotExist)) = refl
is_read (refusal.PublishSubscribeOpenOrCreate (subscribe_either.PublishSubscribeCreateError subscribe_creating.ServiceInCorruptedState)) = refl
is_read (refusal.RequestResponseOpen request_opening.DoesNotExist) = refl
is_read (refusal.RequestResponseCreate request_creating.AlreadyExists) = refl
is_read (refusal.RequestResponseOpenOrCreate (request_either.RequestResponseOpenError request_opening.DoesNotExist)) = refl
is_read (refusal.RequestResponseOpenOrCreate (request_either.RequestResponseCreateError request_creating.AlreadyExists)) = refl
is_read _ = refl

pub is_known : (r : Refusal) → numbered (number_of r) ≡ Some r
is_known (refusal.EventOpen opening.DoesNotExist) = refl
is_known (refusal.EventCreate creating.ServiceInCorruptedState) = refl
is_known (refusal.EventOpenOrCreate (event_either.EventOpenError opening.DoesNotExist)) = refl
is_known (refusal.EventOpenOrCreate (event_either.EventCreateError creating.ServiceInCorruptedState)) = refl
is_known (refusal.PublishSubscribeOpen subscribe_opening.DoesNotExist) = refl
is_known (refusal.PublishSubscribeCreate subscribe_creating.ServiceInCorruptedState) = refl
is_known (refusal.PublishSubscribeOpenOrCreate (subscribe_either.PublishSubscribeOpenError subscribe_opening.DoesNotExist)) = refl
is_known (refusal.PublishSubscribeOpenOrCreate (subscribe_either.PublishSubscribeCreateError subscribe_creating.ServiceInCorruptedState)) = refl
is_known (refusal.RequestResponseOpen request_opening.DoesNotExist) = refl
is_known (refusal.RequestResponseCreate request_creating.AlreadyExists) = refl
is_known (refusal.RequestResponseOpenOrCreate (request_either.RequestResponseOpenError request_opening.DoesNotExist)) = refl
is_known (refusal.RequestResponseOpenOrCreate (request_either.RequestResponseCreateError request_creating.AlreadyExists)) = refl
is_known _ = refl
