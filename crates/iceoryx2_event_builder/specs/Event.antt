-- What a builder of events asks, and its errors.
use Rattle.std.specs.Prelude.{List, [], ◌∷◌, Option, Some, None, is_some}
use Rattle.std.specs.Option.{option_map}
use Rattle.iceoryx2_attribute.specs.Attributes.{Pair}
use Rattle.iceoryx2_attribute.specs.Requirements.{Requirements}
use Rattle.iceoryx2_description.specs.Span.{Span}
use Rattle.iceoryx2_description.specs.declared.description.MessagingPattern.{MessagingPattern}
use Rattle.iceoryx2_description.specs.declared.description.MessagingPattern.TheVariants as existing
use Rattle.iceoryx2_description.specs.declared.event.StaticConfig.{StaticConfig as Settings}
use Rattle.iceoryx2_description.specs.declared.event.Deadline.{Deadline}
use Rattle.iceoryx2_rounds.specs.Verdict.{Clause}
use Rattle.iceoryx2_rounds.specs.PatternRules.{PatternRules}
use Rattle.iceoryx2_rounds.specs.OwnAttributes.{defining, requiring}
use Rattle.iceoryx2_rounds.specs.declared.pattern.OpenRefusal.{OpenRefusal}
use Rattle.iceoryx2_rounds.specs.declared.pattern.OpenRefusal.TheVariants as open_refusal
use Rattle.iceoryx2_rounds.specs.declared.pattern.CreateRefusal.{CreateRefusal}
use Rattle.iceoryx2_rounds.specs.declared.pattern.CreateRefusal.TheVariants as create_refusal
use Rattle.iceoryx2_errors.specs.declared.error.events.EventOpenError.{EventOpenError}
use Rattle.iceoryx2_errors.specs.declared.error.events.EventOpenError.TheVariants as opening
use Rattle.iceoryx2_errors.specs.declared.error.events.EventCreateError.{EventCreateError}
use Rattle.iceoryx2_errors.specs.declared.error.events.EventCreateError.TheVariants as creating
use Rattle.iceoryx2_errors.specs.contracts.error.events.EventOpenErrorPartialEq.TheImpl as same_opening
use Rattle.iceoryx2_errors.specs.contracts.error.events.EventCreateErrorPartialEq.TheImpl as same_creating
use Rattle.iceoryx2_errors.specs.declared.error.events.EventOpenOrCreateError.{EventOpenOrCreateError}
use Rattle.iceoryx2_errors.specs.declared.error.events.EventOpenOrCreateError.TheVariants as either
use Rattle.iceoryx2_rounds.specs.Retried.{Retried, retried_by}
use Rattle.iceoryx2_rounds.specs.declared.open_or_create.OpenOrCreateRefusal.{OpenOrCreateRefusal}
use Rattle.iceoryx2_rounds.specs.declared.open_or_create.OpenOrCreateRefusal.TheVariants as refusal
use Rattle.iceoryx2_rounds.specs.Zeros.{at_least_one}
use Rattle.iceoryx2_rounds.specs.Rows.{Row, AtLeast, SameNumber, SameSpan, row_clauses}
use Rattle.iceoryx2_event_builder.specs.declared.event.demand.EventDemand.{EventDemand}
use Rattle.iceoryx2_event_builder.specs.declared.event.demand.Marks.{Marks}

-- the length of a deadline: when the service was created is not compared
abbrev pub deadline_value : Option Deadline → Option Span
deadline_value deadline = option_map (λ d. d.value) deadline

-- the settings in order, each with its test and its error
abbrev pub setting_rows : Settings → Marks → Settings → List (Row EventOpenError)
setting_rows required marks existing =
    AtLeast marks.max_notifiers existing.max_notifiers required.max_notifiers
    opening.DoesNotSupportRequestedAmountOfNotifiers ∷
    AtLeast marks.max_listeners existing.max_listeners required.max_listeners
    opening.DoesNotSupportRequestedAmountOfListeners ∷
    AtLeast marks.event_id_max_value existing.event_id_max_value required.event_id_max_value
    opening.DoesNotSupportRequestedMaxEventId ∷
    AtLeast marks.max_nodes existing.max_nodes required.max_nodes
    opening.DoesNotSupportRequestedAmountOfNodes ∷
    SameNumber marks.notifier_created_event existing.notifier_created_event required.notifier_created_event
    opening.IncompatibleNotifierCreatedEvent ∷
    SameNumber marks.notifier_dropped_event existing.notifier_dropped_event required.notifier_dropped_event
    opening.IncompatibleNotifierDroppedEvent ∷
    SameNumber marks.notifier_dead_event existing.notifier_dead_event required.notifier_dead_event
    opening.IncompatibleNotifierDeadEvent ∷
    SameSpan marks.deadline (deadline_value existing.deadline) (deadline_value required.deadline)
    opening.IncompatibleDeadline ∷
    []

abbrev pub setting_clauses : EventDemand → MessagingPattern → List (Clause EventOpenError)
setting_clauses demand (existing.Event settings) = row_clauses (setting_rows demand.settings demand.marks settings)
setting_clauses demand (existing.PublishSubscribe settings) = []
setting_clauses demand (existing.RequestResponse settings) = []

-- another pattern than events
abbrev pub misfit_of : MessagingPattern → Option EventOpenError
misfit_of (existing.Event settings) = None
misfit_of (existing.PublishSubscribe settings) = Some opening.IncompatibleMessagingPattern
misfit_of (existing.RequestResponse settings) = Some opening.IncompatibleMessagingPattern

-- zeros become one where a service has to have room for somebody
abbrev pub event_adjusted : EventDemand → EventDemand
event_adjusted demand = record demand {
  settings = record demand.settings {
    max_notifiers = at_least_one demand.settings.max_notifiers;
    max_listeners = at_least_one demand.settings.max_listeners;
    max_nodes = at_least_one demand.settings.max_nodes;
  };
}

-- the deadline of a service that is created at this time
abbrev pub created_deadline : Span → Deadline → Deadline
created_deadline now deadline = record { value = deadline.value; creation_time = now }

-- what it calls a refusal that every pattern has
abbrev pub event_open_error_of_refusal : OpenRefusal → EventOpenError
event_open_error_of_refusal open_refusal.DoesNotExist = opening.DoesNotExist
event_open_error_of_refusal open_refusal.IncompatibleAttributes = opening.IncompatibleAttributes
event_open_error_of_refusal open_refusal.ServiceInCorruptedState = opening.ServiceInCorruptedState
event_open_error_of_refusal open_refusal.InternalFailure = opening.InternalFailure
event_open_error_of_refusal open_refusal.ExceedsMaxNumberOfNodes = opening.ExceedsMaxNumberOfNodes
event_open_error_of_refusal open_refusal.IsMarkedForDestruction = opening.IsMarkedForDestruction
event_open_error_of_refusal open_refusal.OutOfMemory = opening.OutOfMemory
event_open_error_of_refusal open_refusal.HangsInCreation = opening.HangsInCreation
event_open_error_of_refusal open_refusal.InsufficientPermissions = opening.InsufficientPermissions

abbrev pub event_create_error_of_refusal : CreateRefusal → EventCreateError
event_create_error_of_refusal create_refusal.ServiceInCorruptedState = creating.ServiceInCorruptedState
event_create_error_of_refusal create_refusal.InternalFailure = creating.InternalFailure
event_create_error_of_refusal create_refusal.IsBeingCreatedByAnotherInstance = creating.IsBeingCreatedByAnotherInstance
event_create_error_of_refusal create_refusal.AlreadyExists = creating.AlreadyExists
event_create_error_of_refusal create_refusal.InsufficientPermissions = creating.InsufficientPermissions
event_create_error_of_refusal create_refusal.OutOfMemory = creating.OutOfMemory
event_create_error_of_refusal create_refusal.HangsInCreation = creating.HangsInCreation

abbrev pub event_meaning : EventDemand → PatternRules EventOpenError EventCreateError
event_meaning demand = record {
  open_refusal = event_open_error_of_refusal;
  create_refusal = event_create_error_of_refusal;
  misfit = λ d. misfit_of d.pattern;
  requirement = λ d. setting_clauses demand d.pattern;
  settings_refusal = None;
  needs_clock = is_some demand.settings.deadline;
  attributes = [];
  published = λ now.
      existing.Event (record demand.settings { deadline = option_map (created_deadline now) demand.settings.deadline });
}

-- a create: zeros are raised, and these attributes are defined
abbrev pub event_creating : EventDemand → List Pair → PatternRules EventOpenError EventCreateError
event_creating demand given = defining given (event_meaning (event_adjusted demand))

-- an open: these attributes are required before the settings
abbrev pub event_opening : EventDemand → Requirements → PatternRules EventOpenError EventCreateError
event_opening demand required = requiring required (event_meaning demand)

-- after which errors an open or create goes on
abbrev pub event_retried : Retried EventOpenError EventCreateError
event_retried = retried_by same_opening.ghosts.eq same_creating.ghosts.eq
    event_open_error_of_refusal event_create_error_of_refusal

-- what the rounds of an open or create call its error
abbrev pub event_refusal : EventOpenOrCreateError → OpenOrCreateRefusal EventOpenError EventCreateError
event_refusal (either.EventOpenError error) = refusal.Open error
event_refusal (either.EventCreateError error) = refusal.Create error
event_refusal either.SystemInFlux = refusal.SystemInFlux
