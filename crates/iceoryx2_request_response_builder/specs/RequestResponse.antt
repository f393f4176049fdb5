-- What a builder of request-response asks, and its errors.
use Rattle.std.specs.Prelude.{false, List, [], ◌∷◌, Option, Some, None, if◌then◌else◌}
use Rattle.iceoryx2_attribute.specs.Attributes.{Pair}
use Rattle.iceoryx2_attribute.specs.Requirements.{Requirements}
use Rattle.iceoryx2_types.specs.Types.{Message, compatible}
use Rattle.iceoryx2_description.specs.declared.config.RequestResponse.{RequestResponse as Settings}
use Rattle.iceoryx2_description.specs.declared.request_response.StaticConfig.{StaticConfig as Existing}
use Rattle.iceoryx2_description.specs.declared.description.MessagingPattern.{MessagingPattern}
use Rattle.iceoryx2_description.specs.declared.description.MessagingPattern.TheVariants as existing
use Rattle.iceoryx2_rounds.specs.Verdict.{Clause}
use Rattle.iceoryx2_rounds.specs.PatternRules.{PatternRules}
use Rattle.iceoryx2_rounds.specs.OwnAttributes.{defining, requiring}
use Rattle.iceoryx2_rounds.specs.declared.pattern.OpenRefusal.{OpenRefusal}
use Rattle.iceoryx2_rounds.specs.declared.pattern.OpenRefusal.TheVariants as open_refusal
use Rattle.iceoryx2_rounds.specs.declared.pattern.CreateRefusal.{CreateRefusal}
use Rattle.iceoryx2_rounds.specs.declared.pattern.CreateRefusal.TheVariants as create_refusal
use Rattle.iceoryx2_errors.specs.declared.error.request_response.RequestResponseOpenError.{RequestResponseOpenError}
use Rattle.iceoryx2_errors.specs.declared.error.request_response.RequestResponseOpenError.TheVariants as opening
use Rattle.iceoryx2_errors.specs.declared.error.request_response.RequestResponseCreateError.{RequestResponseCreateError}
use Rattle.iceoryx2_errors.specs.declared.error.request_response.RequestResponseCreateError.TheVariants as creating
use Rattle.iceoryx2_errors.specs.contracts.error.request_response.RequestResponseOpenErrorPartialEq.TheImpl as same_opening
use Rattle.iceoryx2_errors.specs.contracts.error.request_response.RequestResponseCreateErrorPartialEq.TheImpl as same_creating
use Rattle.iceoryx2_errors.specs.declared.error.request_response.RequestResponseOpenOrCreateError.{RequestResponseOpenOrCreateError}
use Rattle.iceoryx2_errors.specs.declared.error.request_response.RequestResponseOpenOrCreateError.TheVariants as either
use Rattle.iceoryx2_rounds.specs.Retried.{Retried, retried_by}
use Rattle.iceoryx2_rounds.specs.declared.open_or_create.OpenOrCreateRefusal.{OpenOrCreateRefusal}
use Rattle.iceoryx2_rounds.specs.declared.open_or_create.OpenOrCreateRefusal.TheVariants as refusal
use Rattle.iceoryx2_rounds.specs.Zeros.{at_least_one}
use Rattle.iceoryx2_rounds.specs.Rows.{Row, AtLeast, SameFlag, row_clauses}
use Rattle.iceoryx2_request_response_builder.specs.declared.request_response.demand.PreparedDemand.{PreparedDemand}
use Rattle.iceoryx2_request_response_builder.specs.declared.request_response.demand.Marks.{Marks}
use Rattle.iceoryx2_request_response_builder.specs.declared.request_response.demand.RequestResponseDemand.{RequestResponseDemand}

-- the settings in order, each with its test and its error
abbrev pub setting_rows : Settings → Marks → Existing → List (Row RequestResponseOpenError)
setting_rows required marks existing =
    SameFlag marks.enable_safe_overflow_for_requests existing.enable_safe_overflow_for_requests
    required.enable_safe_overflow_for_requests opening.IncompatibleOverflowBehaviorForRequests ∷
    SameFlag marks.enable_safe_overflow_for_responses existing.enable_safe_overflow_for_responses
    required.enable_safe_overflow_for_responses opening.IncompatibleOverflowBehaviorForResponses ∷
    SameFlag marks.enable_fire_and_forget_requests existing.enable_fire_and_forget_requests
    required.enable_fire_and_forget_requests opening.IncompatibleBehaviorForFireAndForgetRequests ∷
    AtLeast marks.max_active_requests_per_client existing.max_active_requests_per_client
    required.max_active_requests_per_client opening.DoesNotSupportRequestedAmountOfActiveRequestsPerClient ∷
    AtLeast marks.max_loaned_requests existing.max_loaned_requests required.max_loaned_requests
    opening.DoesNotSupportRequestedAmountOfClientRequestLoans ∷
    AtLeast marks.max_borrowed_responses_per_pending_response existing.max_borrowed_responses_per_pending_response
    required.max_borrowed_responses_per_pending_response
    opening.DoesNotSupportRequestedAmountOfBorrowedResponsesPerPendingResponse ∷
    AtLeast marks.max_response_buffer_size existing.max_response_buffer_size required.max_response_buffer_size
    opening.DoesNotSupportRequestedResponseBufferSize ∷
    AtLeast marks.max_servers existing.max_servers required.max_servers
    opening.DoesNotSupportRequestedAmountOfServers ∷
    AtLeast marks.max_clients existing.max_clients required.max_clients
    opening.DoesNotSupportRequestedAmountOfClients ∷
    AtLeast marks.max_nodes existing.max_nodes required.max_nodes
    opening.DoesNotSupportRequestedAmountOfNodes ∷
    []

abbrev pub setting_clauses : RequestResponseDemand → MessagingPattern → List (Clause RequestResponseOpenError)
setting_clauses demand (existing.Event settings) = []
setting_clauses demand (existing.PublishSubscribe settings) = []
setting_clauses demand (existing.RequestResponse settings) =
    row_clauses (setting_rows demand.settings demand.marks settings)

-- another pattern than request-response, or requests of which its own can't be, or such responses, in this order
abbrev pub misfit_of : (request response : Message) → MessagingPattern → Option RequestResponseOpenError
misfit_of request response (existing.Event settings) = Some opening.IncompatibleMessagingPattern
misfit_of request response (existing.PublishSubscribe settings) =
    Some opening.IncompatibleMessagingPattern
misfit_of request response (existing.RequestResponse settings) =
    if compatible request settings.request_message_type_details
    then if compatible response settings.response_message_type_details
    then None else Some opening.IncompatibleResponseType
    else Some opening.IncompatibleRequestType

-- zeros become one: a service has room for somebody and something of each kind
abbrev pub request_response_adjusted : RequestResponseDemand → RequestResponseDemand
request_response_adjusted demand = record demand {
  settings = record demand.settings {
    max_active_requests_per_client = at_least_one demand.settings.max_active_requests_per_client;
    max_loaned_requests = at_least_one demand.settings.max_loaned_requests;
    max_borrowed_responses_per_pending_response =
        at_least_one demand.settings.max_borrowed_responses_per_pending_response;
    max_response_buffer_size = at_least_one demand.settings.max_response_buffer_size;
    max_servers = at_least_one demand.settings.max_servers;
    max_clients = at_least_one demand.settings.max_clients;
    max_nodes = at_least_one demand.settings.max_nodes;
  };
}

-- what a create publishes with these settings and these types
abbrev pub published_with : Settings → (request response : Message) → MessagingPattern
published_with settings request response = existing.RequestResponse (record {
  enable_safe_overflow_for_requests = settings.enable_safe_overflow_for_requests;
  enable_safe_overflow_for_responses = settings.enable_safe_overflow_for_responses;
  enable_fire_and_forget_requests = settings.enable_fire_and_forget_requests;
  max_active_requests_per_client = settings.max_active_requests_per_client;
  max_loaned_requests = settings.max_loaned_requests;
  max_borrowed_responses_per_pending_response = settings.max_borrowed_responses_per_pending_response;
  max_response_buffer_size = settings.max_response_buffer_size;
  max_servers = settings.max_servers;
  max_clients = settings.max_clients;
  max_nodes = settings.max_nodes;
  request_message_type_details = request;
  response_message_type_details = response;
})

-- what it calls a refusal that every pattern has
abbrev pub request_response_open_error_of_refusal : OpenRefusal → RequestResponseOpenError
request_response_open_error_of_refusal open_refusal.DoesNotExist = opening.DoesNotExist
request_response_open_error_of_refusal open_refusal.IncompatibleAttributes = opening.IncompatibleAttributes
request_response_open_error_of_refusal open_refusal.ServiceInCorruptedState = opening.ServiceInCorruptedState
request_response_open_error_of_refusal open_refusal.InternalFailure = opening.InternalFailure
request_response_open_error_of_refusal open_refusal.ExceedsMaxNumberOfNodes = opening.ExceedsMaxNumberOfNodes
request_response_open_error_of_refusal open_refusal.IsMarkedForDestruction = opening.IsMarkedForDestruction
request_response_open_error_of_refusal open_refusal.OutOfMemory = opening.OutOfMemory
request_response_open_error_of_refusal open_refusal.HangsInCreation = opening.HangsInCreation
request_response_open_error_of_refusal open_refusal.InsufficientPermissions = opening.InsufficientPermissions

abbrev pub request_response_create_error_of_refusal : CreateRefusal → RequestResponseCreateError
request_response_create_error_of_refusal create_refusal.ServiceInCorruptedState = creating.ServiceInCorruptedState
request_response_create_error_of_refusal create_refusal.InternalFailure = creating.InternalFailure
request_response_create_error_of_refusal create_refusal.IsBeingCreatedByAnotherInstance =
    creating.IsBeingCreatedByAnotherInstance
request_response_create_error_of_refusal create_refusal.AlreadyExists = creating.AlreadyExists
request_response_create_error_of_refusal create_refusal.InsufficientPermissions = creating.InsufficientPermissions
request_response_create_error_of_refusal create_refusal.OutOfMemory = creating.OutOfMemory
request_response_create_error_of_refusal create_refusal.HangsInCreation = creating.HangsInCreation

abbrev pub request_response_meaning : RequestResponseDemand → (request response : Message)
    → PatternRules RequestResponseOpenError RequestResponseCreateError
request_response_meaning demand request response = record {
  open_refusal = request_response_open_error_of_refusal;
  create_refusal = request_response_create_error_of_refusal;
  misfit = λ d. misfit_of request response d.pattern;
  requirement = λ d. setting_clauses demand d.pattern;
  settings_refusal = None;
  needs_clock = false;
  attributes = [];
  published = λ now. published_with demand.settings request response;
}

-- a create: zeros are raised, and these attributes are defined
abbrev pub request_response_creating : RequestResponseDemand → (request response : Message) → List Pair
    → PatternRules RequestResponseOpenError RequestResponseCreateError
request_response_creating demand request response given =
    defining given (request_response_meaning (request_response_adjusted demand) request response)

-- an open: these attributes are required before the settings, and the types by the look
abbrev pub request_response_opening : RequestResponseDemand → (request response : Message) → Requirements
    → PatternRules RequestResponseOpenError RequestResponseCreateError
request_response_opening demand request response required =
    requiring required (request_response_meaning demand request response)

-- what one call asks: its messages were prepared once, and no round changes them
abbrev pub prepared_meaning : PreparedDemand
    → PatternRules RequestResponseOpenError RequestResponseCreateError
prepared_meaning asked = request_response_meaning asked.demand asked.request asked.response

abbrev pub prepared_adjusted : PreparedDemand → PreparedDemand
prepared_adjusted asked = record asked { demand = request_response_adjusted asked.demand }

-- after which errors an open or create goes on
abbrev pub request_response_retried : Retried RequestResponseOpenError RequestResponseCreateError
request_response_retried =
    retried_by same_opening.ghosts.eq same_creating.ghosts.eq
    request_response_open_error_of_refusal request_response_create_error_of_refusal

-- what the rounds of an open or create call its error
abbrev pub request_response_refusal : RequestResponseOpenOrCreateError
    → OpenOrCreateRefusal RequestResponseOpenError RequestResponseCreateError
request_response_refusal (either.RequestResponseOpenError error) = refusal.Open error
request_response_refusal (either.RequestResponseCreateError error) = refusal.Create error
request_response_refusal either.SystemInFlux = refusal.SystemInFlux
