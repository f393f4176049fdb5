-- Whatever a look finds wrong has a public state.
use Rattle.std.proofs.Common.{◌≡◌, ℕ, Bool, true, false, cond, List, Some, None, Result, refl, sym, ap}
use Rattle.iceoryx2_description.specs.declared.description.ServiceHash.{ServiceHash}
use Rattle.iceoryx2_description.specs.Description.{Description}
use Rattle.iceoryx2_description.specs.declared.description.MessagingPattern.{MessagingPattern}
use Rattle.iceoryx2_description.specs.declared.description.MessagingPattern.TheVariants as existing
use Rattle.iceoryx2_types.specs.Types.{Message, compatible}
use Rattle.iceoryx2_access.specs.Letter.{Letter}
use Rattle.iceoryx2_access.specs.declared.storage.FetchError.{FetchError}
use Rattle.iceoryx2_rounds.specs.PatternRules.{PatternRules}
use Rattle.iceoryx2_errors.specs.States.{event_open_error_of_state, event_create_error_of_state}
use Rattle.iceoryx2_errors.specs.States.{publish_subscribe_open_error_of_state, publish_subscribe_create_error_of_state}
use Rattle.iceoryx2_errors.specs.States.{request_response_open_error_of_state, request_response_create_error_of_state}
use Rattle.iceoryx2_errors.specs.declared.error.ServiceState.{ServiceState}
use Rattle.iceoryx2_errors.specs.declared.error.ServiceState.TheVariants as state
use Rattle.iceoryx2_errors.specs.declared.error.events.EventOpenError.{EventOpenError}
use Rattle.iceoryx2_errors.specs.declared.error.events.EventOpenError.TheVariants as opening
use Rattle.iceoryx2_errors.specs.declared.error.publish_subscribe.ServiceAvailabilityState.{ServiceAvailabilityState as PublishSubscribeState}
use Rattle.iceoryx2_errors.specs.declared.error.publish_subscribe.ServiceAvailabilityState.TheVariants as subscribe_look
use Rattle.iceoryx2_errors.specs.declared.error.publish_subscribe.PublishSubscribeOpenError.{PublishSubscribeOpenError}
use Rattle.iceoryx2_errors.specs.declared.error.publish_subscribe.PublishSubscribeOpenError.TheVariants as subscribe_opening
use Rattle.iceoryx2_errors.specs.declared.error.request_response.ServiceAvailabilityState.{ServiceAvailabilityState as RequestResponseState}
use Rattle.iceoryx2_errors.specs.declared.error.request_response.ServiceAvailabilityState.TheVariants as request_look
use Rattle.iceoryx2_errors.specs.declared.error.request_response.RequestResponseOpenError.{RequestResponseOpenError}
use Rattle.iceoryx2_errors.specs.declared.error.request_response.RequestResponseOpenError.TheVariants as request_opening
use Rattle.iceoryx2_rounds.specs.declared.look.Fault.{Fault}
use Rattle.iceoryx2_rounds.specs.declared.look.Fault.TheVariants as fault
use Rattle.iceoryx2_rounds.specs.declared.look.Outcome.{Outcome}
use Rattle.iceoryx2_rounds.specs.declared.look.Outcome.TheVariants.{Nothing, Found, Faulty}
use Rattle.iceoryx2_rounds.specs.Looks as look
use Rattle.iceoryx2_rounds.specs.Looks.{IsLookWord, LeadsTo}
use Rattle.iceoryx2_rounds.specs.Refusals.{open_error_of, create_error_of}
use Rattle.iceoryx2_event_builder.specs.declared.event.demand.EventDemand.{EventDemand}
use Rattle.iceoryx2_event_builder.specs.Event.{event_meaning, misfit_of as event_misfit_of}
use Rattle.iceoryx2_publish_subscribe_builder.specs.declared.publish_subscribe.demand.PreparedDemand.{PreparedDemand as PreparedPublishSubscribe}
use Rattle.iceoryx2_publish_subscribe_builder.specs.PublishSubscribe.{prepared_meaning as publish_subscribe_meaning, misfit_of as publish_subscribe_misfit_of}
use Rattle.iceoryx2_request_response_builder.specs.declared.request_response.demand.PreparedDemand.{PreparedDemand as PreparedRequestResponse}
use Rattle.iceoryx2_request_response_builder.specs.RequestResponse.{prepared_meaning as request_response_meaning, misfit_of as request_response_misfit_of}
use Rattle.iceoryx2_builder.specs.Looks.{AnswersStates, event_fault_of, publish_subscribe_fault_of, request_response_fault_of}

abbrev HasState : {S E : Type 0} → (S → Fault E) → Fault E → Type 0
HasState {S} fault_of f = (state : S) × (f ≡ fault_of state)

abbrev HasStateIfFaulty : {S E : Type 0} → (S → Fault E) → Outcome E → Type 0
HasStateIfFaulty fault_of Nothing = Unit {0}
HasStateIfFaulty fault_of (Found n d) = Unit {0}
HasStateIfFaulty fault_of (Faulty f) = HasState fault_of f

-- the states that every pattern has, and one for each misfit
module _ {S E C : Type 0} (m : PatternRules E C) (fault_of : S → Fault E)
    (permissions : HasState fault_of fault.InsufficientPermissions) (hangs : HasState fault_of fault.HangsInCreation)
    (corrupted : HasState fault_of fault.Corrupted) (memory : HasState fault_of fault.OutOfMemory)
    (misfits : (d : Description) (error : E) → m.misfit d ≡ Some error → HasState fault_of (fault.Misfit error)) where
  fetched_has : {hash : ServiceHash} {answer : Result (ℕ × List ℕ) FetchError} {outcome : Outcome E} → LeadsTo m hash answer outcome → HasStateIfFaulty fault_of outcome
  fetched_has look.gone = tt
  fetched_has look.not_finalized = hangs
  fetched_has look.not_opened = permissions
  fetched_has look.not_read = permissions
  fetched_has look.not_fetched = memory
  fetched_has look.not_decoded = memory
  fetched_has (look.malformed none) = corrupted
  fetched_has (look.other_hash form other) = corrupted
  fetched_has (look.misfit {d = d} {error = error} form same bad) = misfits d error bad
  fetched_has (look.fits form same good) = tt

  look_has : {node : ℕ} {hash : ServiceHash} {word : List Letter} {outcome : Outcome E} → IsLookWord m node hash word outcome → HasStateIfFaulty fault_of outcome
  look_has look.absent = tt
  look_has look.broken = corrupted
  look_has (look.fetched there leads) = fetched_has leads

-- ---- events

event_misfit : (pattern : MessagingPattern) (error : EventOpenError) → event_misfit_of pattern ≡ Some error → HasState event_fault_of (fault.Misfit error)
event_misfit (existing.Event s) error e = absurd (cc)
event_misfit (existing.PublishSubscribe s) error e = let is : opening.IncompatibleMessagingPattern ≡ error = cc in (state.IncompatibleMessagingPattern, ap fault.Misfit (sym is))
event_misfit (existing.RequestResponse s) error e = let is : opening.IncompatibleMessagingPattern ≡ error = cc in (state.IncompatibleMessagingPattern, ap fault.Misfit (sym is))

event_opens : (demand : EventDemand) (s : ServiceState) → open_error_of (event_meaning demand) (event_fault_of s) ≡ event_open_error_of_state s
event_opens demand state.Corrupted = refl
event_opens demand s = refl

event_creates : (demand : EventDemand) (s : ServiceState) → create_error_of (event_meaning demand) (event_fault_of s) ≡ event_create_error_of_state s
event_creates demand state.Corrupted = refl
event_creates demand s = refl

pub events_answer : (demand : EventDemand)
    → AnswersStates (event_meaning demand) event_fault_of event_open_error_of_state event_create_error_of_state
events_answer demand = record {
  has_state = λ node hash word f is. look_has (event_meaning demand) event_fault_of
      (state.InsufficientPermissions, refl) (state.HangsInCreation, refl) (state.Corrupted, refl) (state.OutOfMemory, refl)
      (λ d error e. event_misfit d.pattern error e) is;
  of_open = event_opens demand;
  of_create = event_creates demand;
}

-- ---- publish-subscribe

types_misfit : (fits : Bool) (error : PublishSubscribeOpenError) → cond fits None (Some subscribe_opening.IncompatibleTypes) ≡ Some error → HasState publish_subscribe_fault_of (fault.Misfit error)
types_misfit true error e = absurd (cc)
types_misfit false error e = let is : subscribe_opening.IncompatibleTypes ≡ error = cc in (subscribe_look.IncompatibleTypes, ap fault.Misfit (sym is))

publish_subscribe_misfit : (message : Message) (pattern : MessagingPattern) (error : PublishSubscribeOpenError) → publish_subscribe_misfit_of message pattern ≡ Some error → HasState publish_subscribe_fault_of (fault.Misfit error)
publish_subscribe_misfit message (existing.Event s) error e = let is : subscribe_opening.IncompatibleMessagingPattern ≡ error = cc in (subscribe_look.ServiceState state.IncompatibleMessagingPattern, ap fault.Misfit (sym is))
publish_subscribe_misfit message (existing.PublishSubscribe s) error e = types_misfit (compatible message s.message_type_details) error e
publish_subscribe_misfit message (existing.RequestResponse s) error e = let is : subscribe_opening.IncompatibleMessagingPattern ≡ error = cc in (subscribe_look.ServiceState state.IncompatibleMessagingPattern, ap fault.Misfit (sym is))

publish_subscribe_opens : (asked : PreparedPublishSubscribe) (s : PublishSubscribeState) → open_error_of (publish_subscribe_meaning asked) (publish_subscribe_fault_of s) ≡ publish_subscribe_open_error_of_state s
publish_subscribe_opens asked (subscribe_look.ServiceState state.Corrupted) = refl
publish_subscribe_opens asked s = refl

publish_subscribe_creates : (asked : PreparedPublishSubscribe) (s : PublishSubscribeState) → create_error_of (publish_subscribe_meaning asked) (publish_subscribe_fault_of s) ≡ publish_subscribe_create_error_of_state s
publish_subscribe_creates asked (subscribe_look.ServiceState state.Corrupted) = refl
publish_subscribe_creates asked s = refl

pub publish_subscribe_answers : (asked : PreparedPublishSubscribe)
    → AnswersStates (publish_subscribe_meaning asked) publish_subscribe_fault_of publish_subscribe_open_error_of_state publish_subscribe_create_error_of_state
publish_subscribe_answers asked = record {
  has_state = λ node hash word f is. look_has (publish_subscribe_meaning asked) publish_subscribe_fault_of
      (subscribe_look.ServiceState state.InsufficientPermissions, refl) (subscribe_look.ServiceState state.HangsInCreation, refl)
      (subscribe_look.ServiceState state.Corrupted, refl) (subscribe_look.ServiceState state.OutOfMemory, refl)
      (λ d error e. publish_subscribe_misfit asked.message d.pattern error e) is;
  of_open = publish_subscribe_opens asked;
  of_create = publish_subscribe_creates asked;
}

-- ---- request-response

requests_misfit : (requests responses : Bool) (error : RequestResponseOpenError)
    → cond requests (cond responses None (Some request_opening.IncompatibleResponseType)) (Some request_opening.IncompatibleRequestType) ≡ Some error → HasState request_response_fault_of (fault.Misfit error)
requests_misfit true true error e = absurd (cc)
requests_misfit true false error e = let is : request_opening.IncompatibleResponseType ≡ error = cc in (request_look.IncompatibleResponseType, ap fault.Misfit (sym is))
requests_misfit false responses error e = let is : request_opening.IncompatibleRequestType ≡ error = cc in (request_look.IncompatibleRequestType, ap fault.Misfit (sym is))

request_response_misfit : (request response : Message) (pattern : MessagingPattern) (error : RequestResponseOpenError) → request_response_misfit_of request response pattern ≡ Some error → HasState request_response_fault_of (fault.Misfit error)
request_response_misfit request response (existing.Event s) error e = let is : request_opening.IncompatibleMessagingPattern ≡ error = cc in (request_look.ServiceState state.IncompatibleMessagingPattern, ap fault.Misfit (sym is))
request_response_misfit request response (existing.PublishSubscribe s) error e = let is : request_opening.IncompatibleMessagingPattern ≡ error = cc in (request_look.ServiceState state.IncompatibleMessagingPattern, ap fault.Misfit (sym is))
request_response_misfit request response (existing.RequestResponse s) error e = requests_misfit (compatible request s.request_message_type_details) (compatible response s.response_message_type_details) error e

request_response_opens : (asked : PreparedRequestResponse) (s : RequestResponseState) → open_error_of (request_response_meaning asked) (request_response_fault_of s) ≡ request_response_open_error_of_state s
request_response_opens asked (request_look.ServiceState state.Corrupted) = refl
request_response_opens asked s = refl

request_response_creates : (asked : PreparedRequestResponse) (s : RequestResponseState) → create_error_of (request_response_meaning asked) (request_response_fault_of s) ≡ request_response_create_error_of_state s
request_response_creates asked (request_look.ServiceState state.Corrupted) = refl
request_response_creates asked s = refl

pub request_response_answers : (asked : PreparedRequestResponse)
    → AnswersStates (request_response_meaning asked) request_response_fault_of request_response_open_error_of_state request_response_create_error_of_state
request_response_answers asked = record {
  has_state = λ node hash word f is. look_has (request_response_meaning asked) request_response_fault_of
      (request_look.ServiceState state.InsufficientPermissions, refl) (request_look.ServiceState state.HangsInCreation, refl)
      (request_look.ServiceState state.Corrupted, refl) (request_look.ServiceState state.OutOfMemory, refl)
      (λ d error e. request_response_misfit asked.request asked.response d.pattern error e) is;
  of_open = request_response_opens asked;
  of_create = request_response_creates asked;
}
