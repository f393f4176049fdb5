-- The rows of docs/REFUSALS.md, by the names of their texts: of each reason when it comes, and what can be done about
-- it.
use Rattle.std.specs.Prelude.{ℕ, List}
use Rattle.iceoryx2_errors.specs.declared.refusal.Reason.{Reason}
use Rattle.iceoryx2_errors.specs.declared.refusal.Reason.TheVariants as reason
use Rattle.explain_serve.specs.declared.refusals.Part.{Part}
use Rattle.explain_serve.specs.declared.refusals.Part.TheVariants as part
use Rattle.explain_serve.specs.declared.refusals.Pattern.{Pattern}
use Rattle.explain_serve.specs.declared.refusals.Pattern.TheVariants as pattern
use Rattle.explain_serve.specs.declared.refusals.RefusalRow.{RefusalRow}
use Rattle.explain_serve.specs.declared.refusals.comes_when.TheConstants as when
use Rattle.explain_serve.specs.declared.refusals.what_can_be_done.TheConstants as what

-- the two texts of a row
pub record Texts : Type 0 where
  pub comes_when : List ℕ
  pub what_can_be_done : List ℕ

abbrev pub texts_of : RefusalRow → Texts
texts_of row = record { comes_when = row.comes_when.now; what_can_be_done = row.what_can_be_done.now }

-- these two constants
abbrev row : (comes_when what_can_be_done : record { now : List ℕ }) → Texts
row comes_when what_can_be_done = record { comes_when = comes_when.now; what_can_be_done = what_can_be_done.now }

-- a setting that isn't met: an open or create has another way out than an open
abbrev pub required : Part → (comes_when after_open after_either : record { now : List ℕ }) → Texts
required part.Open comes_when after_open after_either = row comes_when after_open
required _ comes_when after_open after_either = row comes_when after_either

-- of each reason, where another part of a call or another pattern has another one
abbrev pub row_of : Reason → Part → Pattern → Texts
row_of reason.DoesNotExist part.Open _ = row when.NO_SERVICE what.CREATE_IT
row_of reason.DoesNotExist _ _ = row when.ROUND_NO_SERVICE what.NOTHING_AS_IN_FLUX
row_of reason.InsufficientPermissions part.Open _ = row when.UNREADABLE what.GRANT_READING
row_of reason.InsufficientPermissions part.RoundOpen _ = row when.ROUND_UNREADABLE what.GRANT_READING
row_of reason.InsufficientPermissions part.Create _ = row when.CREATE_FORBIDDEN what.GRANT_WRITING
row_of reason.InsufficientPermissions _ _ = row when.ROUND_CREATE_FORBIDDEN what.GRANT_WRITING
row_of reason.ServiceInCorruptedState part.Open _ = row when.CORRUPTED what.RETRY_OR_REMOVE
row_of reason.ServiceInCorruptedState part.RoundOpen _ = row when.ROUND_CORRUPTED what.RETRY_OR_CLEAR
row_of reason.ServiceInCorruptedState part.Create _ = row when.CREATE_CORRUPTED what.RETRY_OR_CLEAR
row_of reason.ServiceInCorruptedState _ _ = row when.ROUND_CREATE_CORRUPTED what.NOTHING_AS_NEXT_LOOK_TELLS
row_of reason.IncompatibleMessagingPattern part.Open pattern.Event = row when.OTHER_PATTERN what.TAKE_ANOTHER_NAME
row_of reason.IncompatibleMessagingPattern part.Open _ = row when.OTHER_PATTERN_BEFORE_TYPES what.TAKE_ANOTHER_NAME
row_of reason.IncompatibleMessagingPattern _ pattern.Event = row when.ROUND_OTHER_PATTERN what.TAKE_ANOTHER_NAME
row_of reason.IncompatibleMessagingPattern _ _ = row when.ROUND_OTHER_PATTERN_BEFORE_TYPES what.TAKE_ANOTHER_NAME
row_of reason.IncompatibleAttributes part.Open pattern.Event = row when.ATTRIBUTES what.REQUIRE_LESS
row_of reason.IncompatibleAttributes part.Open _ = row when.ATTRIBUTES_AFTER_TYPES what.REQUIRE_LESS
row_of reason.IncompatibleAttributes _ pattern.Event = row when.ROUND_ATTRIBUTES what.DEFINE_KEYS
row_of reason.IncompatibleAttributes _ _ = row when.ROUND_ATTRIBUTES_AFTER_TYPES what.DEFINE_KEYS
row_of reason.InternalFailure part.Open _ = row when.NO_TAG_OR_TICKET what.RETRY_OR_NEW_TABLE
row_of reason.InternalFailure part.RoundOpen _ = row when.NO_TAG_OR_TICKET what.RETRY_OR_NEW_TABLE
row_of reason.InternalFailure part.Create pattern.Event = row when.CREATE_FAILS_OR_NO_TIME what.GIVE_TIME
row_of reason.InternalFailure part.Create _ = row when.CREATE_FAILS what.NEW_TABLE_OR_RETRY
row_of reason.InternalFailure _ pattern.Event = row when.ROUND_CREATE_FAILS_OR_NO_TIME what.GIVE_TIME
row_of reason.InternalFailure _ _ = row when.ROUND_CREATE_FAILS what.NEW_TABLE_OR_RETRY
row_of reason.IncompatibleDeadline p _ = required p when.DEADLINE what.MATCH_DEADLINE what.MATCH_DEADLINE_OR_DEFAULT
row_of reason.IncompatibleNotifierCreatedEvent p _ =
    required p when.NOTIFIER_CREATED_EVENT what.MATCH_CREATED_EVENT what.MATCH_CREATED_EVENT_OR_DEFAULT
row_of reason.IncompatibleNotifierDroppedEvent p _ =
    required p when.NOTIFIER_DROPPED_EVENT what.MATCH_DROPPED_EVENT what.MATCH_DROPPED_EVENT_OR_DEFAULT
row_of reason.IncompatibleNotifierDeadEvent p _ =
    required p when.NOTIFIER_DEAD_EVENT what.MATCH_DEAD_EVENT what.MATCH_DEAD_EVENT_OR_DEFAULT
row_of reason.HangsInCreation part.Open _ = row when.LOCKED what.RETRY_AFTER_LOCK
row_of reason.HangsInCreation part.RoundOpen _ = row when.ROUND_LOCKED what.RETRY_AFTER_LOCK
row_of reason.HangsInCreation part.Create _ = row when.CREATE_FINDS_LOCK what.OPEN_AFTER_LOCK
row_of reason.HangsInCreation _ _ = row when.ROUND_CREATE_FINDS_LOCK what.RETRY_AFTER_LOCK
row_of reason.DoesNotSupportRequestedAmountOfNotifiers p _ =
    required p when.MAX_NOTIFIERS what.ASK_FOR_AS_MANY what.ASK_FOR_AS_MANY_OR_DEFAULT
row_of reason.DoesNotSupportRequestedAmountOfListeners p _ =
    required p when.MAX_LISTENERS what.ASK_FOR_AS_MANY what.ASK_FOR_AS_MANY_OR_DEFAULT
row_of reason.DoesNotSupportRequestedMaxEventId p _ =
    required p when.EVENT_ID_MAX_VALUE what.ASK_FOR_AS_MUCH what.ASK_FOR_AS_MUCH_OR_DEFAULT
row_of reason.DoesNotSupportRequestedAmountOfNodes part.Open pattern.Event =
    row when.EVENT_MAX_NODES what.ASK_FOR_AS_MANY
row_of reason.DoesNotSupportRequestedAmountOfNodes part.Open pattern.PublishSubscribe =
    row when.PUBLISH_SUBSCRIBE_MAX_NODES what.ASK_FOR_AS_MANY
row_of reason.DoesNotSupportRequestedAmountOfNodes part.Open _ =
    row when.REQUEST_RESPONSE_MAX_NODES what.ASK_FOR_AS_MANY
row_of reason.DoesNotSupportRequestedAmountOfNodes _ pattern.Event =
    row when.EVENT_MAX_NODES what.ASK_FOR_AS_MANY_OR_DEFAULT
row_of reason.DoesNotSupportRequestedAmountOfNodes _ pattern.PublishSubscribe =
    row when.PUBLISH_SUBSCRIBE_MAX_NODES what.ASK_FOR_AS_MANY_OR_DEFAULT
row_of reason.DoesNotSupportRequestedAmountOfNodes _ _ =
    row when.REQUEST_RESPONSE_MAX_NODES what.ASK_FOR_AS_MANY_OR_DEFAULT
row_of reason.ExceedsMaxNumberOfNodes part.Open _ = row when.FULL what.WAIT_FOR_ROOM
row_of reason.ExceedsMaxNumberOfNodes _ _ = row when.ROUND_FULL what.WAIT_FOR_ROOM
row_of reason.IsMarkedForDestruction part.Open _ = row when.MARKED what.WAIT_AND_CREATE
row_of reason.IsMarkedForDestruction _ _ = row when.ROUND_MARKED what.NOTHING_UNLESS_LEFT
row_of reason.OutOfMemory part.Open pattern.Event = row when.NO_MEMORY what.FREE_MEMORY
row_of reason.OutOfMemory part.Open _ = row when.NO_MEMORY_OR_TYPES what.FREE_MEMORY
row_of reason.OutOfMemory part.RoundOpen pattern.Event = row when.ROUND_NO_MEMORY what.FREE_MEMORY
row_of reason.OutOfMemory part.RoundOpen _ = row when.ROUND_NO_MEMORY_OR_TYPES what.FREE_MEMORY
row_of reason.OutOfMemory part.Create pattern.Event = row when.CREATE_NO_MEMORY what.FREE_MEMORY_FOR_CREATE
row_of reason.OutOfMemory part.Create pattern.PublishSubscribe =
    row when.CREATE_NO_MEMORY_BEFORE_HISTORY what.FREE_MEMORY_FOR_CREATE
row_of reason.OutOfMemory part.Create _ = row when.CREATE_NO_MEMORY_OR_TYPES what.FREE_MEMORY_FOR_CREATE
row_of reason.OutOfMemory _ pattern.Event = row when.ROUND_CREATE_NO_MEMORY what.FREE_MEMORY_FOR_CREATE
row_of reason.OutOfMemory _ _ = row when.ROUND_CREATE_NO_MEMORY_BUT_TYPES what.FREE_MEMORY_FOR_CREATE
row_of reason.IsBeingCreatedByAnotherInstance part.Create _ = row when.OTHERS_LOCK what.OPEN_LATER
row_of reason.IsBeingCreatedByAnotherInstance _ _ = row when.ROUND_OTHERS_LOCK what.NOTHING_AS_LOCKED
row_of reason.AlreadyExists part.Create pattern.Event = row when.EXISTS what.OPEN_IT
row_of reason.AlreadyExists part.Create pattern.PublishSubscribe =
    row when.EXISTS_OF_ANY_TYPES what.OPEN_OR_ANOTHER_NAME
row_of reason.AlreadyExists part.Create _ = row when.EXISTS_OF_ANY_REQUEST_OR_RESPONSE what.OPEN_OR_ANOTHER_NAME
row_of reason.AlreadyExists _ _ = row when.ROUND_EXISTS what.NOTHING_AS_ROUND_OPENS
row_of reason.SystemInFlux _ _ = row when.SIX_ROUNDS what.NAME_THE_CAUSE
row_of reason.IncompatibleTypes part.Open _ = row when.TYPES what.MATCH_TYPES
row_of reason.IncompatibleTypes _ _ = row when.ROUND_TYPES what.MATCH_TYPES
row_of reason.DoesNotSupportRequestedMinBufferSize p _ =
    required p when.SUBSCRIBER_MAX_BUFFER_SIZE what.ASK_FOR_AS_MUCH what.ASK_FOR_AS_MUCH_OR_DEFAULT
row_of reason.DoesNotSupportRequestedMinHistorySize p _ =
    required p when.HISTORY_SIZE what.ASK_FOR_AS_MUCH what.ASK_FOR_AS_MUCH_OR_DEFAULT
row_of reason.DoesNotSupportRequestedMinSubscriberBorrowedSamples p _ =
    required p when.SUBSCRIBER_MAX_BORROWED_SAMPLES what.ASK_FOR_AS_MUCH what.ASK_FOR_AS_MUCH_OR_DEFAULT
row_of reason.DoesNotSupportRequestedAmountOfPublishers p _ =
    required p when.MAX_PUBLISHERS what.ASK_FOR_AS_MANY what.ASK_FOR_AS_MANY_OR_DEFAULT
row_of reason.DoesNotSupportRequestedAmountOfSubscribers p _ =
    required p when.MAX_SUBSCRIBERS what.ASK_FOR_AS_MANY what.ASK_FOR_AS_MANY_OR_DEFAULT
row_of reason.IncompatibleOverflowBehavior p _ = required p when.ENABLE_SAFE_OVERFLOW what.MATCH what.MATCH_OR_DEFAULT
row_of reason.SubscriberBufferMustBeLargerThanHistorySize part.Create _ = row when.HISTORY what.MAKE_ROOM_FOR_HISTORY
row_of reason.SubscriberBufferMustBeLargerThanHistorySize _ _ = row when.ROUND_HISTORY what.MAKE_ROOM_OR_OPEN
row_of reason.DoesNotSupportRequestedAmountOfClientRequestLoans p _ =
    required p when.MAX_LOANED_REQUESTS what.ASK_FOR_AS_MUCH what.ASK_FOR_AS_MUCH_OR_DEFAULT
row_of reason.DoesNotSupportRequestedAmountOfActiveRequestsPerClient p _ =
    required p when.MAX_ACTIVE_REQUESTS_PER_CLIENT what.ASK_FOR_AS_MUCH what.ASK_FOR_AS_MUCH_OR_DEFAULT
row_of reason.DoesNotSupportRequestedResponseBufferSize p _ =
    required p when.MAX_RESPONSE_BUFFER_SIZE what.ASK_FOR_AS_MUCH what.ASK_FOR_AS_MUCH_OR_DEFAULT
row_of reason.DoesNotSupportRequestedAmountOfServers p _ =
    required p when.MAX_SERVERS what.ASK_FOR_AS_MANY what.ASK_FOR_AS_MANY_OR_DEFAULT
row_of reason.DoesNotSupportRequestedAmountOfClients p _ =
    required p when.MAX_CLIENTS what.ASK_FOR_AS_MANY what.ASK_FOR_AS_MANY_OR_DEFAULT
row_of reason.DoesNotSupportRequestedAmountOfBorrowedResponsesPerPendingResponse p _ =
    required p when.MAX_BORROWED_RESPONSES_PER_PENDING_RESPONSE what.ASK_FOR_AS_MUCH what.ASK_FOR_AS_MUCH_OR_DEFAULT
row_of reason.IncompatibleRequestType part.Open _ = row when.REQUEST_TYPE what.MATCH_REQUEST
row_of reason.IncompatibleRequestType _ _ = row when.ROUND_REQUEST_TYPE what.MATCH_REQUEST
row_of reason.IncompatibleResponseType part.Open _ = row when.RESPONSE_TYPE what.MATCH_RESPONSE
row_of reason.IncompatibleResponseType _ _ = row when.ROUND_RESPONSE_TYPE what.MATCH_RESPONSE
row_of reason.IncompatibleOverflowBehaviorForRequests p _ =
    required p when.ENABLE_SAFE_OVERFLOW_FOR_REQUESTS what.MATCH what.MATCH_OR_DEFAULT
row_of reason.IncompatibleOverflowBehaviorForResponses p _ =
    required p when.ENABLE_SAFE_OVERFLOW_FOR_RESPONSES what.MATCH what.MATCH_OR_DEFAULT
row_of reason.IncompatibleBehaviorForFireAndForgetRequests p _ =
    required p when.ENABLE_FIRE_AND_FORGET_REQUESTS what.MATCH what.MATCH_OR_DEFAULT
