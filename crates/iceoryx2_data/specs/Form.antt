-- The byte form of a description, part by part.
use Rattle.std.specs.Prelude.{ℕ, ◌≡◌, List, [], ◌∷◌, ◌++◌, length, codes, Option, Some, None}
use Rattle.std.specs.Int.{w16, to_be_bytes}
use Rattle.std.specs.List.{flat_map}
use Rattle.iceoryx2_attribute.specs.Attributes.{Pair}
use Rattle.iceoryx2_data.specs.declared.bytes.TheConstants.{EVENT_BYTE, PUBLISH_SUBSCRIBE_BYTE, REQUEST_RESPONSE_BYTE}
use Rattle.iceoryx2_description.specs.declared.description.MessagingPattern.{MessagingPattern}
use Rattle.iceoryx2_description.specs.declared.description.MessagingPattern.TheVariants.{Event, PublishSubscribe}
use Rattle.iceoryx2_description.specs.declared.description.MessagingPattern.TheVariants.{RequestResponse}
use Rattle.iceoryx2_description.specs.declared.event.StaticConfig.{StaticConfig as EventConfig}
use Rattle.iceoryx2_description.specs.declared.publish_subscribe.StaticConfig.{StaticConfig as PublishSubscribeConfig}
use Rattle.iceoryx2_description.specs.declared.request_response.StaticConfig.{StaticConfig as RequestResponseConfig}
use Rattle.iceoryx2_description.specs.Description.{Description, IsDescription}
use Rattle.iceoryx2_data.specs.PartForm.{text, number, truth, option, deadline, message}

-- the key, then the value
abbrev pub pair : Pair → List ℕ
pair p = text p.key ++ text p.value

-- how many there are as two bytes, then each in its order
abbrev pub attributes : List Pair → List ℕ
attributes ps = to_be_bytes w16 (length ps) ++ flat_map pair ps

-- the settings in the order in which they are verified
abbrev pub event : EventConfig → List ℕ
event s = number s.max_notifiers ++ number s.max_listeners ++ number s.event_id_max_value ++ number s.max_nodes
    ++ option number s.notifier_created_event ++ option number s.notifier_dropped_event
    ++ option number s.notifier_dead_event ++ option deadline s.deadline

-- the settings in the order in which they are verified, and then the types
abbrev pub publish_subscribe : PublishSubscribeConfig → List ℕ
publish_subscribe s = number s.max_publishers ++ number s.max_subscribers ++ number s.subscriber_max_buffer_size
    ++ number s.history_size ++ number s.subscriber_max_borrowed_samples ++ truth s.enable_safe_overflow
    ++ number s.max_nodes ++ message s.message_type_details

-- the settings in the order in which they are verified, and then the types of a request and of a response
abbrev pub request_response : RequestResponseConfig → List ℕ
request_response s = truth s.enable_safe_overflow_for_requests ++ truth s.enable_safe_overflow_for_responses
    ++ truth s.enable_fire_and_forget_requests ++ number s.max_active_requests_per_client
    ++ number s.max_loaned_requests ++ number s.max_borrowed_responses_per_pending_response
    ++ number s.max_response_buffer_size ++ number s.max_servers ++ number s.max_clients ++ number s.max_nodes
    ++ message s.request_message_type_details ++ message s.response_message_type_details

-- the pattern's byte, and its settings
abbrev pub pattern : MessagingPattern → List ℕ
pattern (Event s) = EVENT_BYTE ∷ event s
pattern (PublishSubscribe s) = PUBLISH_SUBSCRIBE_BYTE ∷ publish_subscribe s
pattern (RequestResponse s) = REQUEST_RESPONSE_BYTE ∷ request_response s

-- the characters by which the form is known
abbrev pub magic : List ℕ
magic = codes "IOX2"

-- The version of the form, by what is told of the creator: the first tells none, and the second its id.
abbrev pub versioned : Option ℕ → List ℕ
versioned None = 1 ∷ []
versioned (Some creator) = 2 ∷ number creator

abbrev pub description : Description → List ℕ
description d = magic ++ versioned d.creator ++ d.hash.0 ++ text d.name ++ attributes d.attributes
    ++ pattern d.pattern

-- The bytes are the byte form of the description, nothing before them or behind.
abbrev pub IsForm : Description → List ℕ → Type 0
IsForm d bytes = IsDescription d × (bytes ≡ description d)
