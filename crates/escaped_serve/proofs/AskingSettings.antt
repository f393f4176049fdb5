-- The terms of settings are taken, and by their setters the same settings are published.
use Rattle.std.proofs.Common.{◌≡◌, ℕ, true, List, [], ◌∷◌, ◌++◌, append_assoc, Option, Some, None, MatchOption, IfSome, refl, sym, ap, subst}
use Rattle.std.proofs.lemmas.List.{append-nil}
use Rattle.std.specs.Prelude.{fold}
use Rattle.std.specs.Option.{option_map}
use Rattle.iceoryx2_access.specs.Run.{Each, done, next}
use Rattle.iceoryx2_description.specs.Description.{IsDeadline, IsEvent, IsPublishSubscribe, IsRequestResponse}
use Rattle.iceoryx2_description.specs.Span.{IsSpan, Span}
use Rattle.iceoryx2_description.specs.declared.event.Deadline.{Deadline}
use Rattle.iceoryx2_description.specs.declared.event.StaticConfig.{StaticConfig as EventConfig}
use Rattle.iceoryx2_description.specs.declared.publish_subscribe.StaticConfig.{StaticConfig as SampleConfig}
use Rattle.iceoryx2_description.specs.declared.request_response.StaticConfig.{StaticConfig as RequestConfig}
use Rattle.iceoryx2_event_builder.specs.Event.{deadline_value}
use Rattle.iceoryx2_types.specs.Types.{Detail, message_of, with_alignment, with_overrides}
use Rattle.iceoryx2_description.specs.declared.description.MessagingPattern.TheVariants as pattern
use Rattle.iceoryx2_event_builder.specs.Event.{created_deadline, event_meaning}
use Rattle.iceoryx2_event_builder.specs.Builder.{demand_with, demanded_deadline}
use Rattle.iceoryx2_event_builder.specs.declared.event.demand.EventDemand.{EventDemand}
use Rattle.iceoryx2_event_builder.specs.declared.event.setting.EventSetter.{EventSetter}
use Rattle.iceoryx2_publish_subscribe_builder.specs.PublishSubscribe.{published_with as samples_published}
use Rattle.iceoryx2_publish_subscribe_builder.specs.Builder.{PublishSubscribeBuilderState, message_header, message_for, with_setting as with_sample_setting}
use Rattle.iceoryx2_publish_subscribe_builder.specs.declared.publish_subscribe.setting.PublishSubscribeSetter.{PublishSubscribeSetter}
use Rattle.iceoryx2_request_response_builder.specs.RequestResponse.{published_with as requests_published}
use Rattle.iceoryx2_request_response_builder.specs.Builder.{RequestResponseBuilderState, messages_for, request_header, response_header, with_setting as with_request_setting}
use Rattle.iceoryx2_request_response_builder.specs.declared.request_response.setting.RequestResponseSetter.{RequestResponseSetter}
use Rattle.negotiate_lines.specs.declared.leaf.Form.TheVariants as form
use Rattle.negotiate_lines.specs.declared.vocabulary.Admitted.{Admitted}
use Rattle.negotiate_lines.specs.Vocabulary.{Vocabulary, Sets, row_of, common_rows, IsSettingOf}
use Rattle.negotiate_lines.specs.CallTerms.{Arguments, setting, IsCommonOf, IsInstructionOf, TakesTerms}
use Rattle.negotiate_lines.specs.SettingTerms.{event_vocabulary, publish_subscribe_vocabulary, request_response_vocabulary}
use Rattle.escaped_serve.specs.Asking.{IsValue, Setting, created_at, with_header, event_settings, request_settings, sample_settings, setter_with, setters_of, term_text, terms_asking, value_text}
use Rattle.escaped_serve.proofs.AskingGraphic.{graphic, graphic_all}
use Rattle.escaped_serve.proofs.AskingValues.{around, lacks, tested, value_shown}

-- a setting that its pattern has, with a value within its limits
pub record IsKnown {S : Type 0} (v : Vocabulary S) (s : Setting S) : Type 0 where
  pub common : row_of common_rows s.name ≡ None
  pub row : row_of v.rows s.name ≡ Some s.takes
  pub name : lacks 61 s.name ≡ true
  pub word : graphic s.name ≡ true
  pub value : IsValue s.takes s.value

abbrev known : {S : Type 0} {v : Vocabulary S} {s : Setting S} → row_of common_rows s.name ≡ None → row_of v.rows s.name ≡ Some s.takes
    → lacks 61 s.name ≡ true → graphic s.name ≡ true → IsValue s.takes s.value → IsKnown v s
known common row name word value = record { common = common; row = row; name = name; word = word; value = value }

abbrev pub given : {S : Type 0} → Arguments S → List S → Arguments S
given old settings = record { settings = settings; requirements = old.requirements; now = old.now }

module _ {S : Type 0} (v : Vocabulary S) (admitted : Admitted) where
  meant : (s : Setting S) → IsKnown v s
      → IsInstructionOf form.Escaped v admitted (term_text s.name (value_text s.takes s.value)) (setting (setter_with s.takes s.value))
  meant s is =
      let setter = setter_with s.takes s.value in
      let text = value_text s.takes s.value in
      let sets : IsSettingOf form.Escaped v.rows s.name text setter =
      subst (λ r. MatchOption r ⊥ (λ takes. Sets form.Escaped takes text setter)) (sym is.row) (value_shown s.takes s.value is.value) in
      record {
        name = s.name;
        value = text;
        around = around 61 s.name text (tested 61 s.name is.name);
        value_is =
            subst (λ c. MatchOption c ((t : S) × IsSettingOf form.Escaped v.rows s.name text t × (setting setter ≡ setting t))
            (λ common. IsCommonOf admitted common text (setting setter))) (sym is.common) (setter, sets, refl);
      }

  pub settings_taken : (old : Arguments S) (settings : List (Setting S)) → Each (IsKnown v) settings
      → TakesTerms form.Escaped v admitted old (terms_asking settings) (given old (old.settings ++ setters_of settings))
  settings_taken old [] known =
      subst (λ (ss : List S). TakesTerms form.Escaped v admitted old [] (given old ss)) (sym (append-nil old.settings)) done
  settings_taken old (s ∷ settings) known =
      let setter = setter_with s.takes s.value in
      subst (λ (ss : List S). TakesTerms form.Escaped v admitted old (terms_asking (s ∷ settings)) (given old ss))
      (append_assoc old.settings (setter ∷ []) (setters_of settings))
      (next (setting setter, meant s known.0, refl) (settings_taken (given old (old.settings ++ setter ∷ [])) settings known.1))

-- ---- each pattern knows its settings

span_within : (d : Option Deadline) → IfSome d IsDeadline → IfSome (deadline_value d) IsSpan
span_within None is = tt
span_within (Some d) is = is.0

pub events_known : (s : EventConfig) → IsEvent s → Each (IsKnown event_vocabulary) (event_settings s)
unfolding lacks graphic graphic_all
events_known s is = (
  known refl refl refl refl is.max_notifiers,
  (
    known refl refl refl refl is.max_listeners,
    (
      known refl refl refl refl is.event_id_max_value,
      (
        known refl refl refl refl is.max_nodes,
        (
          known refl refl refl refl is.created,
          (
            known refl refl refl refl is.dropped,
            (
              known refl refl refl refl is.dead,
              (known refl refl refl refl (span_within s.deadline is.deadline), tt),
            ),
          ),
        ),
      ),
    ),
  ),
)

pub samples_known : (s : SampleConfig) → IsPublishSubscribe s → Each (IsKnown publish_subscribe_vocabulary) (sample_settings s)
unfolding lacks graphic graphic_all
samples_known s is = (
  known refl refl refl refl is.max_publishers,
  (
    known refl refl refl refl is.max_subscribers,
    (
      known refl refl refl refl is.subscriber_max_buffer_size,
      (
        known refl refl refl refl is.history_size,
        (
          known refl refl refl refl is.subscriber_max_borrowed_samples,
          (
            known refl refl refl refl tt,
            (
              known refl refl refl refl is.max_nodes,
              (
                known refl refl refl refl is.message.payload,
                (known refl refl refl refl is.message.user_header, tt),
              ),
            ),
          ),
        ),
      ),
    ),
  ),
)

pub requests_known : (s : RequestConfig) → IsRequestResponse s → Each (IsKnown request_response_vocabulary) (request_settings s)
unfolding lacks graphic graphic_all
requests_known s is = (
  known refl refl refl refl tt,
  (
    known refl refl refl refl tt,
    (
      known refl refl refl refl tt,
      (
        known refl refl refl refl is.max_active_requests_per_client,
        (
          known refl refl refl refl is.max_loaned_requests,
          (
            known refl refl refl refl is.max_borrowed_responses_per_pending_response,
            (
              known refl refl refl refl is.max_response_buffer_size,
              (
                known refl refl refl refl is.max_servers,
                (
                  known refl refl refl refl is.max_clients,
                  (
                    known refl refl refl refl is.max_nodes,
                    (
                      known refl refl refl refl is.request.payload,
                      (
                        known refl refl refl refl is.request.user_header,
                        (
                          known refl refl refl refl is.response.payload,
                          (known refl refl refl refl is.response.user_header, tt),
                        ),
                      ),
                    ),
                  ),
                ),
              ),
            ),
          ),
        ),
      ),
    ),
  ),
)

-- ---- what is published by their setters

deadline_again : (now : Span) (d : Option Deadline)
    → option_map (created_deadline now) (option_map demanded_deadline (deadline_value d)) ≡ option_map (created_deadline now) d
deadline_again now None = refl
deadline_again now (Some d) = refl

pub events_published : (s : EventConfig) (setters : List EventSetter) → setters ≡ setters_of (event_settings s) → (demand : EventDemand) (now : Span)
    → (event_meaning (fold demand_with demand setters)).published now ≡ pattern.Event (created_at now s)
events_published s setters are demand now =
    subst (λ (ss : List EventSetter). (event_meaning (fold demand_with demand ss)).published now ≡ pattern.Event (created_at now s)) (sym are)
    (ap (λ (d : Option Deadline). pattern.Event (record s { deadline = d })) (deadline_again now s.deadline))

pub samples_published_again : (s : SampleConfig) (setters : List PublishSubscribeSetter) → setters ≡ setters_of (sample_settings s)
    → (builder : PublishSubscribeBuilderState) (payload user_header : Detail) → builder.types.alignment ≡ None
    → samples_published (fold with_sample_setting builder setters).demand.settings
    (message_for payload user_header (fold with_sample_setting builder setters).types)
    ≡ pattern.PublishSubscribe (record s { message_type_details = with_header message_header s.message_type_details })
unfolding with_overrides
samples_published_again s setters are builder payload user_header none =
    subst (λ (ss : List PublishSubscribeSetter). samples_published (fold with_sample_setting builder ss).demand.settings
    (message_for payload user_header (fold with_sample_setting builder ss).types)
    ≡ pattern.PublishSubscribe (record s { message_type_details = with_header message_header s.message_type_details })) (sym are)
    (ap (λ (a : Option ℕ). pattern.PublishSubscribe (record s {
      message_type_details = message_of message_header s.message_type_details.user_header (with_alignment s.message_type_details.payload a);
    })) none)

pub requests_published_again : (s : RequestConfig) (setters : List RequestResponseSetter) → setters ≡ setters_of (request_settings s)
    → (builder : RequestResponseBuilderState) (request request_user response response_user : Detail)
    → builder.types.request.alignment ≡ None → builder.types.response.alignment ≡ None
    → requests_published (fold with_request_setting builder setters).demand.settings
    (messages_for request request_user response response_user (fold with_request_setting builder setters).types).request
    (messages_for request request_user response response_user (fold with_request_setting builder setters).types).response
    ≡ pattern.RequestResponse (record s {
      request_message_type_details = with_header request_header s.request_message_type_details;
      response_message_type_details = with_header response_header s.response_message_type_details;
    })
unfolding with_overrides
requests_published_again s setters are builder request request_user response response_user none none_either =
    subst (λ (ss : List RequestResponseSetter). requests_published (fold with_request_setting builder ss).demand.settings
    (messages_for request request_user response response_user (fold with_request_setting builder ss).types).request
    (messages_for request request_user response response_user (fold with_request_setting builder ss).types).response
    ≡ pattern.RequestResponse (record s {
      request_message_type_details = with_header request_header s.request_message_type_details;
      response_message_type_details = with_header response_header s.response_message_type_details;
    })) (sym are)
    (λ i. pattern.RequestResponse (record s {
      request_message_type_details = message_of request_header s.request_message_type_details.user_header
          (with_alignment s.request_message_type_details.payload (none i));
      response_message_type_details = message_of response_header s.response_message_type_details.user_header
          (with_alignment s.response_message_type_details.payload (none_either i));
    }))
