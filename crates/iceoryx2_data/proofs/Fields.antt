-- Each part of a description, and the whole.
use Rattle.std.proofs.Common.{◌≡◌, ℕ, Bool, true, false, cond, eqb, List, [], ◌∷◌, ◌++◌, length, Option, Some, None, refl, sym, ap, subst, ◌∙◌, inl, inr, ◌⊎◌, arith}
use Rattle.std.specs.Prelude.{Result, Ok, Err, IfOk, MatchResult}
use Rattle.std.proofs.lemmas.Bool.{eqb-true}
use Rattle.std.proofs.lemmas.List.{append-nil, nil_from_length}
use Rattle.std.proofs.lemmas.Option.{none-some}
use Rattle.iceoryx2_description.specs.declared.description.MessagingPattern.{MessagingPattern}
use Rattle.iceoryx2_description.specs.declared.description.MessagingPattern.TheVariants.{Event, PublishSubscribe, RequestResponse}
use Rattle.iceoryx2_description.specs.declared.request_response.StaticConfig.{StaticConfig as RequestResponseConfig}
use Rattle.iceoryx2_description.specs.declared.description.TheConstants.{HASH_LENGTH, MIN_NAME_LENGTH, MAX_NAME_LENGTH}
use Rattle.iceoryx2_attribute.specs.declared.attribute.TheConstants.{MIN_KEY_LENGTH, MAX_KEY_LENGTH, MAX_VALUE_LENGTH, MAX_ATTRIBUTES}
use Rattle.iceoryx2_attribute.specs.Attributes.{ascends, IsPair, AreAttributes}
use Rattle.iceoryx2_types.specs.Types.{Message}
use Rattle.iceoryx2_description.specs.Description.{Description, IsDeadline, IsEvent, IsPublishSubscribe, IsRequestResponse, IsPattern, IsDescription}
use Rattle.iceoryx2_data.specs.declared.parts.reading.DecodeError.{DecodeError}
use Rattle.iceoryx2_data.specs.declared.parts.reading.DecodeError.TheVariants.{Malformed, OutOfMemory}
use Rattle.iceoryx2_data.specs.PartForm.{text, number, truth, option, deadline, message}
use Rattle.iceoryx2_data.specs.PartReading.{Part, as_at, counted_at, deadline_at, IsReadBy}
use Rattle.iceoryx2_data.proofs.PartForms.{IsBytes, IsBytes-rest, bind_some, guard_is, some_is, Takes, Reads, Reads-then, Reads-as, Reads-where, Reads-form, Reads-fits, Reads-each_byte, Reads-literal, Reads-number64, Reads-text, Reads-truth, Reads-option, Reads-counted}
use Rattle.iceoryx2_data.proofs.Grouped.{regrouped}
use Rattle.iceoryx2_data.proofs.Times.{Reads-deadline, Reads-id}
use Rattle.iceoryx2_data.proofs.Messages.{Reads-message}
use Rattle.iceoryx2_data.specs.declared.bytes.TheConstants.{EVENT_BYTE, PUBLISH_SUBSCRIBE_BYTE, REQUEST_RESPONSE_BYTE}
use Rattle.iceoryx2_data.proofs.Versions.{Reads-versioned}
use Rattle.iceoryx2_data.specs.Form.{event, publish_subscribe, request_response, pattern, pair, attributes, magic, versioned, description, IsForm}
use Rattle.iceoryx2_data.specs.Reading.{pair_from, pair_at, attributes_at, event_from, event_at, publish_subscribe_from, publish_subscribe_at, Counts, request_response_from, messages_at, request_response_at, pattern_at, description_from, description_at, all_of}

-- ---- attributes

pub Reads-pair : Reads pair_at pair IsPair
unfolding pair_at
Reads-pair = Reads-as pair_from (λ p. (p.key, p.value)) _ _ _ IsPair (λ b. refl) (λ a. refl) (λ a h. record { key = h.0; value = h.1 }) (λ b h. (h.key, h.value))
    (Reads-then _ _ _ _ _ _ (Reads-text MIN_KEY_LENGTH MAX_KEY_LENGTH (omega arith)) (Reads-text 0 MAX_VALUE_LENGTH (omega arith)))

pub Reads-attributes : Reads attributes_at attributes AreAttributes
unfolding attributes_at
Reads-attributes = Reads-fits _ attributes _ AreAttributes
    (λ a h. record { few = h.0.0; each = h.0.1; ascending = h.1 })
    (λ a h. ((h.few, h.each), h.ascending))
    (Reads-where ascends (counted_at MAX_ATTRIBUTES pair_at) attributes _ (Reads-counted pair_at pair IsPair MAX_ATTRIBUTES (omega arith) Reads-pair))

pub Reads-event : Reads event_at event IsEvent
unfolding event_at
Reads-event = Reads-form _ _ event IsEvent (Reads-as event_from (λ s. (s.max_notifiers, (s.max_listeners, (s.event_id_max_value, (s.max_nodes, (s.notifier_created_event, (s.notifier_dropped_event, (s.notifier_dead_event, s.deadline))))))))
    _ _ _ IsEvent (λ b. refl) (λ a. refl)
    (λ a h. record { max_notifiers = h.0; max_listeners = h.1.0; event_id_max_value = h.1.1.0; max_nodes = h.1.1.1.0; created = h.1.1.1.1.0; dropped = h.1.1.1.1.1.0; dead = h.1.1.1.1.1.1.0; deadline = h.1.1.1.1.1.1.1 })
    (λ b h. (h.max_notifiers, (h.max_listeners, (h.event_id_max_value, (h.max_nodes, (h.created, (h.dropped, (h.dead, h.deadline))))))))
    (Reads-then _ _ _ _ _ _ Reads-number64 (Reads-then _ _ _ _ _ _ Reads-number64 (Reads-then _ _ _ _ _ _ Reads-number64 (Reads-then _ _ _ _ _ _ Reads-number64
    (Reads-then _ _ _ _ _ _ Reads-id (Reads-then _ _ _ _ _ _ Reads-id (Reads-then _ _ _ _ _ _ Reads-id (Reads-option deadline_at deadline IsDeadline Reads-deadline)))))))))
    (λ s. regrouped (number s.max_notifiers) (number s.max_listeners ∷ number s.event_id_max_value ∷ number s.max_nodes ∷ option number s.notifier_created_event ∷ option number s.notifier_dropped_event
    ∷ option number s.notifier_dead_event ∷ option deadline s.deadline ∷ []))

pub Reads-publish_subscribe : Reads publish_subscribe_at publish_subscribe IsPublishSubscribe
unfolding publish_subscribe_at
Reads-publish_subscribe = Reads-form _ _ publish_subscribe IsPublishSubscribe (Reads-as publish_subscribe_from
    (λ s. (s.max_publishers, (s.max_subscribers, (s.subscriber_max_buffer_size, (s.history_size, (s.subscriber_max_borrowed_samples, (s.enable_safe_overflow, (s.max_nodes, s.message_type_details))))))))
    _ _ _ IsPublishSubscribe (λ b. refl) (λ a. refl)
    (λ a h. record { max_publishers = h.0; max_subscribers = h.1.0; subscriber_max_buffer_size = h.1.1.0; history_size = h.1.1.1.0; subscriber_max_borrowed_samples = h.1.1.1.1.0; max_nodes = h.1.1.1.1.1.1.0; message = h.1.1.1.1.1.1.1 })
    (λ b h. (h.max_publishers, (h.max_subscribers, (h.subscriber_max_buffer_size, (h.history_size, (h.subscriber_max_borrowed_samples, (tt, (h.max_nodes, h.message))))))))
    (Reads-then _ _ _ _ _ _ Reads-number64 (Reads-then _ _ _ _ _ _ Reads-number64 (Reads-then _ _ _ _ _ _ Reads-number64 (Reads-then _ _ _ _ _ _ Reads-number64
    (Reads-then _ _ _ _ _ _ Reads-number64 (Reads-then _ _ _ _ _ _ Reads-truth (Reads-then _ _ _ _ _ _ Reads-number64 Reads-message))))))))
    (λ s. regrouped (number s.max_publishers) (number s.max_subscribers ∷ number s.subscriber_max_buffer_size ∷ number s.history_size ∷ number s.subscriber_max_borrowed_samples
    ∷ truth s.enable_safe_overflow ∷ number s.max_nodes ∷ message s.message_type_details ∷ []))

abbrev messages_of : RequestResponseConfig → Message × Message
messages_of s = (s.request_message_type_details, s.response_message_type_details)

abbrev counts_of : RequestResponseConfig → Counts
counts_of s = (s.max_active_requests_per_client, (s.max_loaned_requests, (s.max_borrowed_responses_per_pending_response, (s.max_response_buffer_size, (s.max_servers, (s.max_clients, (s.max_nodes, messages_of s)))))))

pub Reads-request_response : Reads request_response_at request_response IsRequestResponse
unfolding request_response_at messages_at
Reads-request_response = Reads-form _ _ request_response IsRequestResponse (Reads-as request_response_from
    (λ s. (s.enable_safe_overflow_for_requests, (s.enable_safe_overflow_for_responses, (s.enable_fire_and_forget_requests, counts_of s))))
    _ _ _ IsRequestResponse (λ b. refl) (λ a. refl)
    (λ a h. record {
      max_active_requests_per_client = h.1.1.1.0;
      max_loaned_requests = h.1.1.1.1.0;
      max_borrowed_responses_per_pending_response = h.1.1.1.1.1.0;
      max_response_buffer_size = h.1.1.1.1.1.1.0;
      max_servers = h.1.1.1.1.1.1.1.0;
      max_clients = h.1.1.1.1.1.1.1.1.0;
      max_nodes = h.1.1.1.1.1.1.1.1.1.0;
      request = h.1.1.1.1.1.1.1.1.1.1.0;
      response = h.1.1.1.1.1.1.1.1.1.1.1;
    })
    (λ b h. (tt, (tt, (tt, (h.max_active_requests_per_client, (h.max_loaned_requests, (h.max_borrowed_responses_per_pending_response, (h.max_response_buffer_size, (h.max_servers, (h.max_clients, (h.max_nodes, (h.request, h.response))))))))))))
    (Reads-then _ _ _ _ _ _ Reads-truth (Reads-then _ _ _ _ _ _ Reads-truth (Reads-then _ _ _ _ _ _ Reads-truth (Reads-then _ _ _ _ _ _ Reads-number64 (Reads-then _ _ _ _ _ _ Reads-number64
    (Reads-then _ _ _ _ _ _ Reads-number64 (Reads-then _ _ _ _ _ _ Reads-number64 (Reads-then _ _ _ _ _ _ Reads-number64 (Reads-then _ _ _ _ _ _ Reads-number64 (Reads-then _ _ _ _ _ _ Reads-number64
    (Reads-then _ _ _ _ _ _ Reads-message Reads-message))))))))))))
    (λ s. regrouped (truth s.enable_safe_overflow_for_requests) (truth s.enable_safe_overflow_for_responses ∷ truth s.enable_fire_and_forget_requests ∷ number s.max_active_requests_per_client ∷ number s.max_loaned_requests
    ∷ number s.max_borrowed_responses_per_pending_response ∷ number s.max_response_buffer_size ∷ number s.max_servers ∷ number s.max_clients ∷ number s.max_nodes
    ∷ message s.request_message_type_details ∷ message s.response_message_type_details ∷ []))

-- ---- patterns

-- what stands behind a pattern's byte is taken
record IsTaken (flag : ℕ) (bytes : List ℕ) (x : MessagingPattern × List ℕ) : Type 0 where
  takes : Takes (flag ∷ bytes) (pattern x.0) x.1
  fits : IsPattern x.0

taken : {A : Type 0} (of : A → MessagingPattern) (byte : ℕ) (part : Part A) (form : A → List ℕ) (Fits : A → Type 0) → Reads part form Fits
    → ((a : A) → byte ∷ form a ≡ pattern (of a)) → ((a : A) → Fits a → IsPattern (of a))
    → (flag : ℕ) (bytes : List ℕ) (x : MessagingPattern × List ℕ) → IsBytes (flag ∷ bytes) → flag ≡ byte → as_at of part bytes ≡ Some x → IsTaken flag bytes x
taken of byte part form Fits reads same to flag bytes x fits is e =
    let b = bind_some (part bytes) (λ a. Some (of a.0, a.1)) x e in
    let t = reads.takes bytes b.0 (IsBytes-rest flag bytes fits) b.1 in
    let front : flag ∷ bytes ≡ (byte ∷ form b.0.0) ++ b.0.1 = ap (λ (w : List ℕ). flag ∷ w) t.0.parts ∙ ap (λ (w : ℕ). w ∷ form b.0.0 ++ b.0.1) is in
    let whole : flag ∷ bytes ≡ pattern (of b.0.0) ++ b.0.1 = front ∙ ap (λ (w : List ℕ). w ++ b.0.1) (same b.0.0) in
    subst (λ (y : MessagingPattern × List ℕ). IsTaken flag bytes y) (some_is (of b.0.0, b.0.1) x b.2) (record { takes = record { parts = whole; rest_fits = t.0.rest_fits }; fits = to b.0.0 t.1 })

-- one of two was read
either_is : {A : Type 0} (b : Bool) (r s : Option A) (y : A) → cond b r s ≡ Some y → ((b ≡ true) × (r ≡ Some y)) ⊎ (s ≡ Some y)
either_is true r s y e = inl (refl, e)
either_is false r s y e = inr e

is_taken : (flag : ℕ) (bytes : List ℕ) (x : MessagingPattern × List ℕ) → IsBytes (flag ∷ bytes) → pattern_at (flag ∷ bytes) ≡ Some x → IsTaken flag bytes x
unfolding pattern_at
is_taken flag bytes x fits e =
    let third : Option (MessagingPattern × List ℕ) = cond (eqb flag REQUEST_RESPONSE_BYTE) (as_at RequestResponse request_response_at bytes) None in
    let second : Option (MessagingPattern × List ℕ) = cond (eqb flag PUBLISH_SUBSCRIBE_BYTE) (as_at PublishSubscribe publish_subscribe_at bytes) third in
    elim (either_is (eqb flag EVENT_BYTE) (as_at Event event_at bytes) second x e) [
      | inl h ↦ taken Event EVENT_BYTE event_at event IsEvent Reads-event (λ s. refl) (λ s f. f) flag bytes x fits (eqb-true _ _ h.0) h.1
      | inr o ↦ elim (either_is (eqb flag PUBLISH_SUBSCRIBE_BYTE) (as_at PublishSubscribe publish_subscribe_at bytes) third x o) [
        | inl h ↦ taken PublishSubscribe PUBLISH_SUBSCRIBE_BYTE publish_subscribe_at publish_subscribe IsPublishSubscribe Reads-publish_subscribe (λ s. refl) (λ s f. f) flag bytes x fits (eqb-true _ _ h.0) h.1
        | inr p ↦ let g = guard_is (eqb flag REQUEST_RESPONSE_BYTE) (as_at RequestResponse request_response_at bytes) x p in
            taken RequestResponse REQUEST_RESPONSE_BYTE request_response_at request_response IsRequestResponse Reads-request_response (λ s. refl) (λ s f. f) flag bytes x fits (eqb-true _ _ g.0) g.1
      ]
    ]

pattern_takes : (bytes : List ℕ) (x : MessagingPattern × List ℕ) → IsBytes bytes → pattern_at bytes ≡ Some x → Takes bytes (pattern x.0) x.1 × IsPattern x.0
unfolding pattern_at
pattern_takes [] x fits e = absurd cc
pattern_takes (flag ∷ bytes) x fits e = let t = is_taken flag bytes x fits e in (t.takes, t.fits)

pattern_again : (p : MessagingPattern) (rest : List ℕ) → IsPattern p → pattern_at (pattern p ++ rest) ≡ Some (p, rest)
unfolding pattern_at
pattern_again (Event s) rest fits = rw (Reads-event.again s rest fits) refl
pattern_again (PublishSubscribe s) rest fits = rw (Reads-publish_subscribe.again s rest fits) refl
pattern_again (RequestResponse s) rest fits = rw (Reads-request_response.again s rest fits) refl

pub Reads-pattern : Reads pattern_at pattern IsPattern
Reads-pattern = record { takes = pattern_takes; again = pattern_again }

-- ---- the whole

pub Reads-description : Reads description_at description IsDescription
unfolding description_at
Reads-description = Reads-form _ _ description IsDescription (Reads-as description_from (λ d. (tt, (d.creator, (d.hash.0, (d.name, (d.attributes, d.pattern)))))) _ _ _ IsDescription (λ b. refl) (λ a. refl)
    (λ a h. record { hash = record { length = h.1.1.0.0; bytes = h.1.1.0.1 }; name = h.1.1.1.0; attributes = h.1.1.1.1.0; pattern = h.1.1.1.1.1; creator = h.1.0 })
    (λ d h. (tt, (h.creator, ((h.hash.length, h.hash.bytes), (h.name, (h.attributes, h.pattern))))))
    (Reads-then _ _ _ _ _ _ (Reads-literal magic) (Reads-then _ _ _ _ _ _ Reads-versioned (Reads-then _ _ _ _ _ _ (Reads-each_byte HASH_LENGTH) (Reads-then _ _ _ _ _ _ (Reads-text MIN_NAME_LENGTH MAX_NAME_LENGTH (omega arith)) (Reads-then _ _ _ _ _ _ Reads-attributes Reads-pattern))))))
    (λ d. regrouped magic (versioned d.creator ∷ d.hash.0 ∷ text d.name ∷ attributes d.attributes ∷ pattern d.pattern ∷ []))

pub all_takes : (bytes : List ℕ) (d : Description) → IsBytes bytes → all_of bytes ≡ Some d → IsForm d bytes
unfolding all_of
all_takes bytes d fits e =
    let a = bind_some (description_at bytes) (λ x. cond (eqb (length x.1) 0) (Some x.0) None) d e in
    let g = guard_is (eqb (length a.0.1) 0) (Some a.0.0) d a.2 in
    let t = Reads-description.takes bytes a.0 fits a.1 in
    let nothing : a.0.1 ≡ [] = nil_from_length a.0.1 (eqb-true _ _ g.0) in
    let whole : bytes ≡ description a.0.0 = t.0.parts ∙ ap (λ (r : List ℕ). description a.0.0 ++ r) nothing ∙ append-nil (description a.0.0) in
    subst (λ (v : Description). IsForm v bytes) (some_is a.0.0 d g.1) (t.1, whole)

pub all_again : (d : Description) → IsDescription d → all_of (description d) ≡ Some d
unfolding all_of
all_again d fits =
    let one : description_at (description d) ≡ Some (d, []) = ap description_at (sym (append-nil (description d))) ∙ Reads-description.again d [] fits in
    rw one refl

-- ---- what decode returns

pub is_found : (bytes : List ℕ) (r : Result Description DecodeError) → IsBytes bytes → IsReadBy (λ d. d) r (all_of bytes) → IfOk r (λ d. IsForm d bytes)
is_found bytes (Ok d) fits given = all_takes bytes d fits given
is_found bytes (Err e) fits given = tt

pub is_only : (bytes : List ℕ) (r : Result Description DecodeError) → IsReadBy (λ d. d) r (all_of bytes) → (d : Description) → IsForm d bytes → MatchResult r (λ found. found ≡ d) (λ e. e ≡ OutOfMemory)
is_only bytes (Ok found) given d form = some_is found d (sym given ∙ ap all_of form.1 ∙ all_again d form.0)
is_only bytes (Err OutOfMemory) given d form = refl
is_only bytes (Err Malformed) given d form = absurd (none-some d (sym given ∙ ap all_of form.1 ∙ all_again d form.0))

-- ---- the laws of the byte form

pub one_description : (bytes : List ℕ) (c d : Description) → IsForm c bytes → IsForm d bytes → c ≡ d
one_description bytes c d fc fd = some_is c d (sym (all_again c fc.0) ∙ ap all_of (sym fc.1 ∙ fd.1) ∙ all_again d fd.0)

pub no_front : (bytes rest : List ℕ) (c d : Description) → IsForm c bytes → IsForm d (bytes ++ rest) → rest ≡ []
no_front bytes rest c d fc fd =
    let one : description_at (bytes ++ rest) ≡ Some (c, rest) = ap (λ (b : List ℕ). description_at (b ++ rest)) fc.1 ∙ Reads-description.again c rest fc.0 in
    let two : description_at (bytes ++ rest) ≡ Some (d, []) = ap description_at (fd.1 ∙ sym (append-nil (description d))) ∙ Reads-description.again d [] fd.0 in
    ap (λ (p : Description × List ℕ). p.1) (some_is (c, rest) (d, []) (sym one ∙ two))
