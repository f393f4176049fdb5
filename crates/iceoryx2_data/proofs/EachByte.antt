-- A byte form is a list of bytes.
use Rattle.std.proofs.Common.{ℕ, ◌<◌, List, [], ◌∷◌, Option, Some, None, sym, subst, arith}
use Rattle.std.specs.Prelude.{All}
use Rattle.std.specs.List.{flat_map}
use Rattle.std.proofs.lemmas.List.Concat.{flat_map-cons}
use Rattle.std.proofs.lemmas.List.Elements.{All-from_recursion, recursion_from_All, All-head, All-tail}
use Rattle.iceoryx2_description.specs.declared.description.MessagingPattern.{MessagingPattern}
use Rattle.iceoryx2_description.specs.declared.description.MessagingPattern.TheVariants.{Event, PublishSubscribe, RequestResponse}
use Rattle.iceoryx2_description.specs.declared.event.StaticConfig.{StaticConfig as EventConfig}
use Rattle.iceoryx2_description.specs.declared.publish_subscribe.StaticConfig.{StaticConfig as PublishSubscribeConfig}
use Rattle.iceoryx2_description.specs.declared.request_response.StaticConfig.{StaticConfig as RequestResponseConfig}
use Rattle.iceoryx2_attribute.specs.Attributes.{Pair, IsPair, AreAttributes}
use Rattle.iceoryx2_description.specs.Description.{Description, IsPublishSubscribe, IsRequestResponse, IsPattern}
use Rattle.iceoryx2_data.specs.PartForm.{number, option, deadline}
use Rattle.iceoryx2_data.proofs.PartBytes.{AreBytes, none, more, both, number_bytes, text_bytes, truth_bytes, option_bytes, deadline_bytes, message_bytes}
use Rattle.iceoryx2_data.specs.Form.{event, publish_subscribe, request_response, pattern, pair, attributes, magic, versioned, description, IsForm}

event_bytes : (s : EventConfig) → AreBytes (event s)
event_bytes s =
    let id : (o : Option ℕ) → AreBytes (option number o) = option_bytes number number_bytes in
    both (both (both (both (both (both (both (number_bytes s.max_notifiers) (number_bytes s.max_listeners)) (number_bytes s.event_id_max_value)) (number_bytes s.max_nodes))
    (id s.notifier_created_event)) (id s.notifier_dropped_event)) (id s.notifier_dead_event)) (option_bytes deadline deadline_bytes s.deadline)

publish_subscribe_bytes : (s : PublishSubscribeConfig) → IsPublishSubscribe s → AreBytes (publish_subscribe s)
publish_subscribe_bytes s fits =
    both (both (both (both (both (both (both (number_bytes s.max_publishers) (number_bytes s.max_subscribers)) (number_bytes s.subscriber_max_buffer_size)) (number_bytes s.history_size))
    (number_bytes s.subscriber_max_borrowed_samples)) (truth_bytes s.enable_safe_overflow)) (number_bytes s.max_nodes)) (message_bytes s.message_type_details fits.message)

request_response_bytes : (s : RequestResponseConfig) → IsRequestResponse s → AreBytes (request_response s)
request_response_bytes s fits =
    both (both (both (both (both (both (both (both (both (both (both (truth_bytes s.enable_safe_overflow_for_requests) (truth_bytes s.enable_safe_overflow_for_responses)) (truth_bytes s.enable_fire_and_forget_requests))
    (number_bytes s.max_active_requests_per_client)) (number_bytes s.max_loaned_requests)) (number_bytes s.max_borrowed_responses_per_pending_response)) (number_bytes s.max_response_buffer_size))
    (number_bytes s.max_servers)) (number_bytes s.max_clients)) (number_bytes s.max_nodes)) (message_bytes s.request_message_type_details fits.request)) (message_bytes s.response_message_type_details fits.response)

pattern_bytes : (p : MessagingPattern) → IsPattern p → AreBytes (pattern p)
pattern_bytes (Event s) fits = more (omega arith) (event_bytes s)
pattern_bytes (PublishSubscribe s) fits = more (omega arith) (publish_subscribe_bytes s fits)
pattern_bytes (RequestResponse s) fits = more (omega arith) (request_response_bytes s fits)

magic_bytes : AreBytes magic
magic_bytes = more (omega arith) (more (omega arith) (more (omega arith) (more (omega arith) none)))

versioned_bytes : (creator : Option ℕ) → AreBytes (versioned creator)
versioned_bytes None = more (omega arith) none
versioned_bytes (Some id) = more (omega arith) (number_bytes id)

pair_bytes : (p : Pair) → IsPair p → AreBytes (pair p)
pair_bytes p fits = both (text_bytes p.key fits.key.utf8) (text_bytes p.value fits.value.utf8)

pairs_bytes : (ps : List Pair) → All IsPair ps → AreBytes (flat_map pair ps)
pairs_bytes [] fits = none
pairs_bytes (p ∷ ps) fits = rw flat_map-cons (both (pair_bytes p (All-head IsPair p ps fits)) (pairs_bytes ps (All-tail IsPair p ps fits)))

attributes_bytes : (ps : List Pair) → AreAttributes ps → AreBytes (attributes ps)
attributes_bytes ps fits = more (omega arith) (more (omega arith) (pairs_bytes ps fits.each))

pub form_bytes : (d : Description) (bytes : List ℕ) → IsForm d bytes → All (λ b. b < 256) bytes
form_bytes d bytes form =
    let hash : AreBytes d.hash.0 = record { each = recursion_from_All (λ b. b < 256) d.hash.0 form.0.hash.bytes } in
    let whole : AreBytes (description d) = both (both (both (both (both magic_bytes (versioned_bytes d.creator)) hash) (text_bytes d.name form.0.name.utf8)) (attributes_bytes d.attributes form.0.attributes)) (pattern_bytes d.pattern form.0.pattern) in
    let all : All (λ b. b < 256) (description d) = All-from_recursion (λ b. b < 256) (description d) whole.each in
    subst (λ (bs : List ℕ). All (λ b. b < 256) bs) (sym form.1) all
