-- What a call answers whose look finds something wrong, by the public states of a look.
use Rattle.std.specs.Prelude.{◌≡◌, ℕ, List}
use Rattle.iceoryx2_description.specs.declared.description.ServiceHash.{ServiceHash}
use Rattle.iceoryx2_access.specs.Letter.{Letter}
use Rattle.iceoryx2_rounds.specs.PatternRules.{PatternRules}
use Rattle.iceoryx2_errors.specs.declared.error.ServiceState.{ServiceState}
use Rattle.iceoryx2_errors.specs.declared.error.ServiceState.TheVariants as state
use Rattle.iceoryx2_errors.specs.declared.error.events.EventOpenError.{EventOpenError}
use Rattle.iceoryx2_errors.specs.declared.error.events.EventOpenError.TheVariants as opening
use Rattle.iceoryx2_errors.specs.declared.error.publish_subscribe.ServiceAvailabilityState.{ServiceAvailabilityState as PublishSubscribeState}
use Rattle.iceoryx2_errors.specs.declared.error.publish_subscribe.ServiceAvailabilityState.TheVariants as subscribe_look
use Rattle.iceoryx2_errors.specs.declared.error.publish_subscribe.PublishSubscribeOpenError.{PublishSubscribeOpenError}
use Rattle.iceoryx2_errors.specs.declared.error.publish_subscribe.PublishSubscribeOpenError.TheVariants as subscribe_opening
use Rattle.iceoryx2_errors.specs.declared.error.request_response.ServiceAvailabilityState.{ServiceAvailabilityState as RequestResponseState}
use Rattle.iceoryx2_errors.specs.declared.error.request_response.ServiceAvailabilityState.TheVariants as request_look
use Rattle.iceoryx2_errors.specs.declared.error.request_response.RequestResponseOpenError.{RequestResponseOpenError}
use Rattle.iceoryx2_errors.specs.declared.error.request_response.RequestResponseOpenError.TheVariants as request_opening
use Rattle.iceoryx2_rounds.specs.declared.look.Fault.{Fault}
use Rattle.iceoryx2_rounds.specs.declared.look.Fault.TheVariants as fault
use Rattle.iceoryx2_rounds.specs.declared.look.Outcome.TheVariants.{Faulty}
use Rattle.iceoryx2_rounds.specs.Looks.{IsLookWord}
use Rattle.iceoryx2_rounds.specs.Refusals.{open_error_of, create_error_of}

-- What a look of the rounds finds wrong, by its public state and the error of a service of another pattern.
abbrev pub fault_of : {E : Type 0} → E → ServiceState → Fault E
fault_of misfit state.IncompatibleMessagingPattern = fault.Misfit misfit
fault_of misfit state.InsufficientPermissions = fault.InsufficientPermissions
fault_of misfit state.HangsInCreation = fault.HangsInCreation
fault_of misfit state.Corrupted = fault.Corrupted
fault_of misfit state.OutOfMemory = fault.OutOfMemory

abbrev pub event_fault_of : ServiceState → Fault EventOpenError
event_fault_of s = fault_of opening.IncompatibleMessagingPattern s

-- A service of other types doesn't fit either.
abbrev pub publish_subscribe_fault_of : PublishSubscribeState → Fault PublishSubscribeOpenError
publish_subscribe_fault_of (subscribe_look.ServiceState s) = fault_of subscribe_opening.IncompatibleMessagingPattern s
publish_subscribe_fault_of subscribe_look.IncompatibleTypes = fault.Misfit subscribe_opening.IncompatibleTypes

abbrev pub request_response_fault_of : RequestResponseState → Fault RequestResponseOpenError
request_response_fault_of (request_look.ServiceState s) = fault_of request_opening.IncompatibleMessagingPattern s
request_response_fault_of request_look.IncompatibleRequestType = fault.Misfit request_opening.IncompatibleRequestType
request_response_fault_of request_look.IncompatibleResponseType = fault.Misfit request_opening.IncompatibleResponseType

-- Whatever a look finds wrong has a public state, and an open and a create answer the error that the state becomes.
pub record AnswersStates {S E C : Type 0} (m : PatternRules E C) (fault_of : S → Fault E) (open_error : S → E)
    (create_error : S → C) : Type 0 where
  pub has_state : (node : ℕ) (hash : ServiceHash) (word : List Letter) (fault : Fault E)
      → IsLookWord m node hash word (Faulty fault) → (state : S) × (fault ≡ fault_of state)
  pub of_open : (state : S) → open_error_of m (fault_of state) ≡ open_error state
  pub of_create : (state : S) → create_error_of m (fault_of state) ≡ create_error state
