-- What a builder of publish-subscribe asks, and its errors.
use Rattle.std.specs.Prelude.{Bool, false, List, [], ◌∷◌, ◌&&◌, not, nat_lt, Option, Some, None, if◌then◌else◌}
use Rattle.iceoryx2_attribute.specs.Attributes.{Pair}
use Rattle.iceoryx2_attribute.specs.Requirements.{Requirements}
use Rattle.iceoryx2_types.specs.Types.{Message, compatible}
use Rattle.iceoryx2_description.specs.declared.config.PublishSubscribe.{PublishSubscribe as Settings}
use Rattle.iceoryx2_description.specs.declared.publish_subscribe.StaticConfig.{StaticConfig as Existing}
use Rattle.iceoryx2_description.specs.declared.description.MessagingPattern.{MessagingPattern}
use Rattle.iceoryx2_description.specs.declared.description.MessagingPattern.TheVariants as existing
use Rattle.iceoryx2_rounds.specs.Verdict.{Clause}
use Rattle.iceoryx2_rounds.specs.PatternRules.{PatternRules}
use Rattle.iceoryx2_rounds.specs.OwnAttributes.{defining, requiring}
use Rattle.iceoryx2_rounds.specs.declared.pattern.OpenRefusal.{OpenRefusal}
use Rattle.iceoryx2_rounds.specs.declared.pattern.OpenRefusal.TheVariants as open_refusal
use Rattle.iceoryx2_rounds.specs.declared.pattern.CreateRefusal.{CreateRefusal}
use Rattle.iceoryx2_rounds.specs.declared.pattern.CreateRefusal.TheVariants as create_refusal
use Rattle.iceoryx2_errors.specs.declared.error.publish_subscribe.PublishSubscribeOpenError.{PublishSubscribeOpenError}
use Rattle.iceoryx2_errors.specs.declared.error.publish_subscribe.PublishSubscribeOpenError.TheVariants as opening
use Rattle.iceoryx2_errors.specs.declared.error.publish_subscribe.PublishSubscribeCreateError.{PublishSubscribeCreateError}
use Rattle.iceoryx2_errors.specs.declared.error.publish_subscribe.PublishSubscribeCreateError.TheVariants as creating
use Rattle.iceoryx2_errors.specs.contracts.error.publish_subscribe.PublishSubscribeOpenErrorPartialEq.TheImpl as same_opening
use Rattle.iceoryx2_errors.specs.contracts.error.publish_subscribe.PublishSubscribeCreateErrorPartialEq.TheImpl as same_creating
use Rattle.iceoryx2_errors.specs.declared.error.publish_subscribe.PublishSubscribeOpenOrCreateError.{PublishSubscribeOpenOrCreateError}
use Rattle.iceoryx2_errors.specs.declared.error.publish_subscribe.PublishSubscribeOpenOrCreateError.TheVariants as either
use Rattle.iceoryx2_rounds.specs.Retried.{Retried, retried_by}
use Rattle.iceoryx2_rounds.specs.declared.open_or_create.OpenOrCreateRefusal.{OpenOrCreateRefusal}
use Rattle.iceoryx2_rounds.specs.declared.open_or_create.OpenOrCreateRefusal.TheVariants as refusal
use Rattle.iceoryx2_rounds.specs.Zeros.{at_least_one}
use Rattle.iceoryx2_rounds.specs.Rows.{Row, AtLeast, SameFlag, row_clauses}
use Rattle.iceoryx2_publish_subscribe_builder.specs.declared.publish_subscribe.demand.Marks.{Marks}
use Rattle.iceoryx2_publish_subscribe_builder.specs.declared.publish_subscribe.demand.PublishSubscribeDemand.{PublishSubscribeDemand}
use Rattle.iceoryx2_publish_subscribe_builder.specs.declared.publish_subscribe.demand.PreparedDemand.{PreparedDemand}

-- the settings in order, each with its test and its error
abbrev pub setting_rows : Settings → Marks → Existing → List (Row PublishSubscribeOpenError)
setting_rows required marks existing =
    AtLeast marks.max_publishers existing.max_publishers required.max_publishers
    opening.DoesNotSupportRequestedAmountOfPublishers ∷
    AtLeast marks.max_subscribers existing.max_subscribers required.max_subscribers
    opening.DoesNotSupportRequestedAmountOfSubscribers ∷
    AtLeast marks.subscriber_max_buffer_size existing.subscriber_max_buffer_size required.subscriber_max_buffer_size
    opening.DoesNotSupportRequestedMinBufferSize ∷
    AtLeast marks.history_size existing.history_size required.history_size
    opening.DoesNotSupportRequestedMinHistorySize ∷
    AtLeast marks.subscriber_max_borrowed_samples existing.subscriber_max_borrowed_samples
    required.subscriber_max_borrowed_samples opening.DoesNotSupportRequestedMinSubscriberBorrowedSamples ∷
    SameFlag marks.enable_safe_overflow existing.enable_safe_overflow required.enable_safe_overflow
    opening.IncompatibleOverflowBehavior ∷
    AtLeast marks.max_nodes existing.max_nodes required.max_nodes
    opening.DoesNotSupportRequestedAmountOfNodes ∷
    []

abbrev pub setting_clauses : PublishSubscribeDemand → MessagingPattern → List (Clause PublishSubscribeOpenError)
setting_clauses demand (existing.Event settings) = []
setting_clauses demand (existing.PublishSubscribe settings) =
    row_clauses (setting_rows demand.settings demand.marks settings)
setting_clauses demand (existing.RequestResponse settings) = []

-- another pattern than publish-subscribe, or messages of which its own can't be
abbrev pub misfit_of : Message → MessagingPattern → Option PublishSubscribeOpenError
misfit_of message (existing.Event settings) = Some opening.IncompatibleMessagingPattern
misfit_of message (existing.PublishSubscribe settings) =
    if compatible message settings.message_type_details then None else Some opening.IncompatibleTypes
misfit_of message (existing.RequestResponse settings) = Some opening.IncompatibleMessagingPattern

-- zeros become one where a service has to have room for somebody or something; a service may have no history
abbrev pub publish_subscribe_adjusted : PublishSubscribeDemand → PublishSubscribeDemand
publish_subscribe_adjusted demand = record demand {
  settings = record demand.settings {
    max_publishers = at_least_one demand.settings.max_publishers;
    max_subscribers = at_least_one demand.settings.max_subscribers;
    subscriber_max_buffer_size = at_least_one demand.settings.subscriber_max_buffer_size;
    subscriber_max_borrowed_samples = at_least_one demand.settings.subscriber_max_borrowed_samples;
    max_nodes = at_least_one demand.settings.max_nodes;
  };
}

-- without safe overflow a subscriber's buffer has to have room for the history
abbrev pub lacks_room_for_history : Settings → Bool
lacks_room_for_history settings =
    not settings.enable_safe_overflow && nat_lt settings.subscriber_max_buffer_size settings.history_size

abbrev pub history_refusal_of : Settings → Option PublishSubscribeCreateError
history_refusal_of settings =
    if lacks_room_for_history settings then Some creating.SubscriberBufferMustBeLargerThanHistorySize else None

-- what a create publishes with these settings and these types
abbrev pub published_with : Settings → Message → MessagingPattern
published_with settings message = existing.PublishSubscribe (record {
  max_publishers = settings.max_publishers;
  max_subscribers = settings.max_subscribers;
  subscriber_max_buffer_size = settings.subscriber_max_buffer_size;
  history_size = settings.history_size;
  subscriber_max_borrowed_samples = settings.subscriber_max_borrowed_samples;
  enable_safe_overflow = settings.enable_safe_overflow;
  max_nodes = settings.max_nodes;
  message_type_details = message;
})

-- what it calls a refusal that every pattern has
abbrev pub publish_subscribe_open_error_of_refusal : OpenRefusal → PublishSubscribeOpenError
publish_subscribe_open_error_of_refusal open_refusal.DoesNotExist = opening.DoesNotExist
publish_subscribe_open_error_of_refusal open_refusal.IncompatibleAttributes = opening.IncompatibleAttributes
publish_subscribe_open_error_of_refusal open_refusal.ServiceInCorruptedState = opening.ServiceInCorruptedState
publish_subscribe_open_error_of_refusal open_refusal.InternalFailure = opening.InternalFailure
publish_subscribe_open_error_of_refusal open_refusal.ExceedsMaxNumberOfNodes = opening.ExceedsMaxNumberOfNodes
publish_subscribe_open_error_of_refusal open_refusal.IsMarkedForDestruction = opening.IsMarkedForDestruction
publish_subscribe_open_error_of_refusal open_refusal.OutOfMemory = opening.OutOfMemory
publish_subscribe_open_error_of_refusal open_refusal.HangsInCreation = opening.HangsInCreation
publish_subscribe_open_error_of_refusal open_refusal.InsufficientPermissions = opening.InsufficientPermissions

abbrev pub publish_subscribe_create_error_of_refusal : CreateRefusal → PublishSubscribeCreateError
publish_subscribe_create_error_of_refusal create_refusal.ServiceInCorruptedState = creating.ServiceInCorruptedState
publish_subscribe_create_error_of_refusal create_refusal.InternalFailure = creating.InternalFailure
publish_subscribe_create_error_of_refusal create_refusal.IsBeingCreatedByAnotherInstance =
    creating.IsBeingCreatedByAnotherInstance
publish_subscribe_create_error_of_refusal create_refusal.AlreadyExists = creating.AlreadyExists
publish_subscribe_create_error_of_refusal create_refusal.InsufficientPermissions = creating.InsufficientPermissions
publish_subscribe_create_error_of_refusal create_refusal.OutOfMemory = creating.OutOfMemory
publish_subscribe_create_error_of_refusal create_refusal.HangsInCreation = creating.HangsInCreation

abbrev pub publish_subscribe_meaning : PublishSubscribeDemand → Message
    → PatternRules PublishSubscribeOpenError PublishSubscribeCreateError
publish_subscribe_meaning demand message = record {
  open_refusal = publish_subscribe_open_error_of_refusal;
  create_refusal = publish_subscribe_create_error_of_refusal;
  misfit = λ d. misfit_of message d.pattern;
  requirement = λ d. setting_clauses demand d.pattern;
  settings_refusal = history_refusal_of demand.settings;
  needs_clock = false;
  attributes = [];
  published = λ now. published_with demand.settings message;
}

-- a create: zeros are raised, and these attributes are defined
abbrev pub publish_subscribe_creating : PublishSubscribeDemand → Message → List Pair
    → PatternRules PublishSubscribeOpenError PublishSubscribeCreateError
publish_subscribe_creating demand message given =
    defining given (publish_subscribe_meaning (publish_subscribe_adjusted demand) message)

-- an open: these attributes are required before the settings, and the types by the look
abbrev pub publish_subscribe_opening : PublishSubscribeDemand → Message → Requirements
    → PatternRules PublishSubscribeOpenError PublishSubscribeCreateError
publish_subscribe_opening demand message required = requiring required (publish_subscribe_meaning demand message)

-- what one call asks: its message was prepared once, and no round changes it
abbrev pub prepared_meaning : PreparedDemand
    → PatternRules PublishSubscribeOpenError PublishSubscribeCreateError
prepared_meaning asked = publish_subscribe_meaning asked.demand asked.message

abbrev pub prepared_adjusted : PreparedDemand → PreparedDemand
prepared_adjusted asked = record asked { demand = publish_subscribe_adjusted asked.demand }

-- after which errors an open or create goes on
abbrev pub publish_subscribe_retried : Retried PublishSubscribeOpenError PublishSubscribeCreateError
publish_subscribe_retried =
    retried_by same_opening.ghosts.eq same_creating.ghosts.eq
    publish_subscribe_open_error_of_refusal
    publish_subscribe_create_error_of_refusal

-- what the rounds of an open or create call its error
abbrev pub publish_subscribe_refusal : PublishSubscribeOpenOrCreateError
    → OpenOrCreateRefusal PublishSubscribeOpenError PublishSubscribeCreateError
publish_subscribe_refusal (either.PublishSubscribeOpenError error) = refusal.Open error
publish_subscribe_refusal (either.PublishSubscribeCreateError error) = refusal.Create error
publish_subscribe_refusal either.SystemInFlux = refusal.SystemInFlux
