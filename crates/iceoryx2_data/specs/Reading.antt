-- Reading the byte form from left to right, part by part.
use Rattle.std.specs.Prelude.{ℕ, zero, suc, Bool, List, [], ◌∷◌, ◌++◌, length}
use Rattle.std.specs.Prelude.{Option, Some, None, ◌==◌, if◌then◌else◌}
use Rattle.std.specs.Int.{w64}
use Rattle.iceoryx2_data.specs.declared.bytes.TheConstants.{EVENT_BYTE, PUBLISH_SUBSCRIBE_BYTE, REQUEST_RESPONSE_BYTE}
use Rattle.iceoryx2_description.specs.declared.description.TheConstants.{HASH_LENGTH, MIN_NAME_LENGTH, MAX_NAME_LENGTH}
use Rattle.iceoryx2_description.specs.declared.description.MessagingPattern.{MessagingPattern}
use Rattle.iceoryx2_description.specs.declared.description.MessagingPattern.TheVariants.{Event, PublishSubscribe}
use Rattle.iceoryx2_description.specs.declared.description.MessagingPattern.TheVariants.{RequestResponse}
use Rattle.iceoryx2_description.specs.declared.event.StaticConfig.{StaticConfig as EventConfig}
use Rattle.iceoryx2_description.specs.declared.event.Deadline.{Deadline}
use Rattle.iceoryx2_description.specs.declared.publish_subscribe.StaticConfig.{StaticConfig as PublishSubscribeConfig}
use Rattle.iceoryx2_description.specs.declared.request_response.StaticConfig.{StaticConfig as RequestResponseConfig}
use Rattle.iceoryx2_attribute.specs.declared.attribute.TheConstants.{MIN_KEY_LENGTH, MAX_KEY_LENGTH}
use Rattle.iceoryx2_attribute.specs.declared.attribute.TheConstants.{MAX_VALUE_LENGTH, MAX_ATTRIBUTES}
use Rattle.iceoryx2_attribute.specs.Attributes.{Pair, pair_of, ascends}
use Rattle.iceoryx2_types.specs.Types.{Message}
use Rattle.iceoryx2_description.specs.Description.{Description}
use Rattle.iceoryx2_data.specs.PartReading.{◌>>=◌, Part, then_at, as_at, where_at}
use Rattle.iceoryx2_data.specs.PartReading.{number_at, bytes_at, literal_at, text_at, truth_at, option_at}
use Rattle.iceoryx2_data.specs.PartReading.{list_at, counted_at, deadline_at, message_at}
use Rattle.iceoryx2_data.specs.Form.{magic}

-- ---- attributes

abbrev pub pair_from : List ℕ × List ℕ → Pair
pair_from p = pair_of p.0 p.1

unfoldable pub pair_at : Part Pair
pair_at = as_at pair_from (then_at (text_at MIN_KEY_LENGTH MAX_KEY_LENGTH) (text_at 0 MAX_VALUE_LENGTH))

-- so many pairs, each before the next
abbrev pub pairs_at : ℕ → Part (List Pair)
pairs_at n = where_at ascends (list_at pair_at n)

-- these pairs with one behind them that the last of them stands before
unfoldable pub more_at : List Pair → Part (List Pair)
more_at ps = where_at ascends (as_at (λ p. ps ++ p ∷ []) pair_at)

unfoldable pub attributes_at : Part (List Pair)
attributes_at = where_at ascends (counted_at MAX_ATTRIBUTES pair_at)

-- ---- the settings of events

abbrev pub Options : Type 0
Options = Option ℕ × (Option ℕ × (Option ℕ × Option Deadline))

abbrev pub event_from : ℕ × (ℕ × (ℕ × (ℕ × Options))) → EventConfig
event_from p = record {
  max_notifiers = p.0;
  max_listeners = p.1.0;
  event_id_max_value = p.1.1.0;
  max_nodes = p.1.1.1.0;
  notifier_created_event = p.1.1.1.1.0;
  notifier_dropped_event = p.1.1.1.1.1.0;
  notifier_dead_event = p.1.1.1.1.1.1.0;
  deadline = p.1.1.1.1.1.1.1;
}

unfoldable pub event_at : Part EventConfig
event_at = as_at event_from (then_at (number_at w64) (then_at (number_at w64) (then_at (number_at w64)
    (then_at (number_at w64) (then_at (option_at (number_at w64)) (then_at (option_at (number_at w64))
    (then_at (option_at (number_at w64)) (option_at deadline_at))))))))

-- ---- the settings of publish-subscribe

abbrev pub Overflow : Type 0
Overflow = Bool × (ℕ × Message)

abbrev pub publish_subscribe_from : ℕ × (ℕ × (ℕ × (ℕ × (ℕ × Overflow)))) → PublishSubscribeConfig
publish_subscribe_from p = record {
  max_publishers = p.0;
  max_subscribers = p.1.0;
  subscriber_max_buffer_size = p.1.1.0;
  history_size = p.1.1.1.0;
  subscriber_max_borrowed_samples = p.1.1.1.1.0;
  enable_safe_overflow = p.1.1.1.1.1.0;
  max_nodes = p.1.1.1.1.1.1.0;
  message_type_details = p.1.1.1.1.1.1.1;
}

unfoldable pub publish_subscribe_at : Part PublishSubscribeConfig
publish_subscribe_at = as_at publish_subscribe_from (then_at (number_at w64) (then_at (number_at w64)
    (then_at (number_at w64) (then_at (number_at w64) (then_at (number_at w64) (then_at truth_at
    (then_at (number_at w64) message_at)))))))

-- ---- the settings of request-response

abbrev pub Counts : Type 0
Counts = ℕ × (ℕ × (ℕ × (ℕ × (ℕ × (ℕ × (ℕ × (Message × Message)))))))

abbrev pub request_response_from : Bool × (Bool × (Bool × Counts)) → RequestResponseConfig
request_response_from p = record {
  enable_safe_overflow_for_requests = p.0;
  enable_safe_overflow_for_responses = p.1.0;
  enable_fire_and_forget_requests = p.1.1.0;
  max_active_requests_per_client = p.1.1.1.0;
  max_loaned_requests = p.1.1.1.1.0;
  max_borrowed_responses_per_pending_response = p.1.1.1.1.1.0;
  max_response_buffer_size = p.1.1.1.1.1.1.0;
  max_servers = p.1.1.1.1.1.1.1.0;
  max_clients = p.1.1.1.1.1.1.1.1.0;
  max_nodes = p.1.1.1.1.1.1.1.1.1.0;
  request_message_type_details = p.1.1.1.1.1.1.1.1.1.1.0;
  response_message_type_details = p.1.1.1.1.1.1.1.1.1.1.1;
}

-- the messages of its requests and of its responses
unfoldable pub messages_at : Part (Message × Message)
messages_at = then_at message_at message_at

unfoldable pub request_response_at : Part RequestResponseConfig
request_response_at = as_at request_response_from (then_at truth_at (then_at truth_at (then_at truth_at
    (then_at (number_at w64) (then_at (number_at w64) (then_at (number_at w64) (then_at (number_at w64)
    (then_at (number_at w64) (then_at (number_at w64) (then_at (number_at w64) messages_at))))))))))

-- ---- the whole

unfoldable pub pattern_at : Part MessagingPattern
pattern_at [] = None
pattern_at (b ∷ rest) = if b == EVENT_BYTE then as_at Event event_at rest
    else if b == PUBLISH_SUBSCRIBE_BYTE then as_at PublishSubscribe publish_subscribe_at rest
    else if b == REQUEST_RESPONSE_BYTE then as_at RequestResponse request_response_at rest else None

-- the version, and the creator's id behind the second one
unfoldable pub versioned_at : Part (Option ℕ)
versioned_at [] = None
versioned_at (zero ∷ rest) = None
versioned_at (suc zero ∷ rest) = Some (None, rest)
versioned_at (suc (suc zero) ∷ rest) = number_at w64 rest >>= λ x. Some (Some x.0, x.1)
versioned_at (suc (suc (suc b)) ∷ rest) = None

abbrev pub DescriptionParts : Type 0
DescriptionParts = Unit {0} × (Option ℕ × (List ℕ × (List ℕ × (List Pair × MessagingPattern))))

abbrev pub description_from : DescriptionParts → Description
description_from p = record {
  hash = record { 0 = p.1.1.0 };
  name = p.1.1.1.0;
  attributes = p.1.1.1.1.0;
  pattern = p.1.1.1.1.1;
  creator = p.1.0;
}

unfoldable pub description_at : Part Description
description_at = as_at description_from (then_at (literal_at magic) (then_at versioned_at
    (then_at (bytes_at HASH_LENGTH) (then_at (text_at MIN_NAME_LENGTH MAX_NAME_LENGTH)
    (then_at attributes_at pattern_at)))))

-- all of the bytes
unfoldable pub all_of : List ℕ → Option Description
all_of bytes = description_at bytes >>= λ x. if length x.1 == 0 then Some x.0 else None
