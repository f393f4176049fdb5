-- The types that a builder asks for after setters don't hang on what else it asks.
use Rattle.std.proofs.Common.{◌≡◌, ℕ, List, [], ◌∷◌, Some, length, refl, sym, ap, ◌∙◌, arith}
use Rattle.iceoryx2_rounds.specs.Requested.{no_types}
use Rattle.iceoryx2_rounds.specs.declared.requested.RequestedTypes.{RequestedTypes}
use Rattle.iceoryx2_publish_subscribe_builder.specs.Builder.{PublishSubscribeBuilderState}
use Rattle.iceoryx2_publish_subscribe_builder.specs.Builder as publish_subscribe
use Rattle.iceoryx2_publish_subscribe_builder.specs.declared.publish_subscribe.setting.PublishSubscribeSetter.{PublishSubscribeSetter}
use Rattle.iceoryx2_publish_subscribe_builder.specs.declared.publish_subscribe.setting.PublishSubscribeSetter.TheVariants as sample_set
use Rattle.iceoryx2_request_response_builder.specs.Builder.{RequestResponseBuilderState, no_message_types}
use Rattle.iceoryx2_request_response_builder.specs.Builder as request_response
use Rattle.iceoryx2_request_response_builder.specs.declared.request_response.requested.RequestedMessages.{RequestedMessages}
use Rattle.iceoryx2_request_response_builder.specs.declared.request_response.setting.RequestResponseSetter.{RequestResponseSetter}
use Rattle.iceoryx2_request_response_builder.specs.declared.request_response.setting.RequestResponseSetter.TheVariants as request_set
use Rattle.iceoryx2_description.specs.declared.config.PublishSubscribe.{PublishSubscribe as SampleDefaults}
use Rattle.iceoryx2_description.specs.declared.config.RequestResponse.{RequestResponse as RequestDefaults}
use Rattle.iceoryx2_session.specs.Markers.{payload_marker, user_header_marker}
use Rattle.iceoryx2_session.specs.PublishSubscribe.{named_message}
use Rattle.iceoryx2_session.specs.RequestResponse.{named_messages}
use Rattle.iceoryx2_session.specs.Setters.{with_settings}
use Rattle.explain_serve.specs.Messages.{asked_message, asked_messages, sample_builder, sample_builder_after, request_builder, request_builder_after}

-- ---- publish-subscribe

sample_alike : (b d : PublishSubscribeBuilderState) (x : PublishSubscribeSetter) → b.types ≡ d.types → (publish_subscribe.with_setting b x).types ≡ (publish_subscribe.with_setting d x).types
sample_alike b d (sample_set.PayloadAlignment n) e = ap (λ (t : RequestedTypes). record t { alignment = Some n }) e
sample_alike b d (sample_set.PayloadType detail) e = ap (λ (t : RequestedTypes). record t { payload = Some detail }) e
sample_alike b d (sample_set.UserHeaderType detail) e = ap (λ (t : RequestedTypes). record t { user_header = Some detail }) e
sample_alike b d _ e = e

samples_alike : (b d : PublishSubscribeBuilderState) (xs : List PublishSubscribeSetter) → b.types ≡ d.types
    → (with_settings publish_subscribe.with_setting b xs).types ≡ (with_settings publish_subscribe.with_setting d xs).types
unfolding with_settings
samples_alike b d [] e = e
samples_alike b d (x ∷ xs) e = samples_alike (publish_subscribe.with_setting b x) (publish_subscribe.with_setting d x) xs (sample_alike b d x e)

-- whoever calls and whatever is configured
pub same_message : (node : ℕ) (name : List ℕ) (defaults : SampleDefaults) (xs : List PublishSubscribeSetter)
    → named_message (with_settings publish_subscribe.with_setting (publish_subscribe.fresh_builder node name defaults) xs) ≡ asked_message xs
same_message node name defaults xs =
    ap (publish_subscribe.message_for payload_marker user_header_marker) (samples_alike (publish_subscribe.fresh_builder node name defaults) (sample_builder no_types) xs refl)

-- one setter is taken, and those behind it are left
pub next_sample : (t u : RequestedTypes) (x : PublishSubscribeSetter) (later left all : List PublishSubscribeSetter) → left ≡ x ∷ later → u ≡ (publish_subscribe.with_setting (sample_builder t) x).types
    → (sample_builder_after t left).types ≡ (sample_builder_after no_types all).types → (sample_builder_after u later).types ≡ (sample_builder_after no_types all).types
unfolding with_settings
next_sample t u x later left all is e so_far =
    samples_alike (sample_builder u) (publish_subscribe.with_setting (sample_builder t) x) later e
    ∙ ap (λ l. (sample_builder_after t l).types) (sym is) ∙ so_far

-- none is left
pub last_sample : (t : RequestedTypes) (left : List PublishSubscribeSetter) → length left ≡ 0 → t ≡ (sample_builder_after t left).types
unfolding with_settings
last_sample t [] is = refl
last_sample t (x ∷ xs) is = absurd (omega (arith, is))

-- ---- request-response

request_alike : (b d : RequestResponseBuilderState) (x : RequestResponseSetter) → b.types ≡ d.types → (request_response.with_setting b x).types ≡ (request_response.with_setting d x).types
request_alike b d (request_set.RequestPayloadAlignment n) e = ap (λ (t : RequestedMessages). record t { request = record t.request { alignment = Some n } }) e
request_alike b d (request_set.ResponsePayloadAlignment n) e = ap (λ (t : RequestedMessages). record t { response = record t.response { alignment = Some n } }) e
request_alike b d (request_set.RequestPayloadType detail) e = ap (λ (t : RequestedMessages). record t { request = record t.request { payload = Some detail } }) e
request_alike b d (request_set.RequestHeaderType detail) e = ap (λ (t : RequestedMessages). record t { request = record t.request { user_header = Some detail } }) e
request_alike b d (request_set.ResponsePayloadType detail) e = ap (λ (t : RequestedMessages). record t { response = record t.response { payload = Some detail } }) e
request_alike b d (request_set.ResponseHeaderType detail) e = ap (λ (t : RequestedMessages). record t { response = record t.response { user_header = Some detail } }) e
request_alike b d _ e = e

requests_alike : (b d : RequestResponseBuilderState) (xs : List RequestResponseSetter) → b.types ≡ d.types
    → (with_settings request_response.with_setting b xs).types ≡ (with_settings request_response.with_setting d xs).types
unfolding with_settings
requests_alike b d [] e = e
requests_alike b d (x ∷ xs) e = requests_alike (request_response.with_setting b x) (request_response.with_setting d x) xs (request_alike b d x e)

pub same_messages : (node : ℕ) (name : List ℕ) (defaults : RequestDefaults) (xs : List RequestResponseSetter)
    → named_messages (with_settings request_response.with_setting (request_response.fresh_builder node name defaults) xs) ≡ asked_messages xs
same_messages node name defaults xs =
    ap (request_response.messages_for payload_marker user_header_marker payload_marker user_header_marker)
    (requests_alike (request_response.fresh_builder node name defaults) (request_builder no_message_types) xs refl)

pub next_request : (t u : RequestedMessages) (x : RequestResponseSetter) (later left all : List RequestResponseSetter) → left ≡ x ∷ later → u ≡ (request_response.with_setting (request_builder t) x).types
    → (request_builder_after t left).types ≡ (request_builder_after no_message_types all).types → (request_builder_after u later).types ≡ (request_builder_after no_message_types all).types
unfolding with_settings
next_request t u x later left all is e so_far =
    requests_alike (request_builder u) (request_response.with_setting (request_builder t) x) later e
    ∙ ap (λ l. (request_builder_after t l).types) (sym is) ∙ so_far

pub last_request : (t : RequestedMessages) (left : List RequestResponseSetter) → length left ≡ 0 → t ≡ (request_builder_after t left).types
unfolding with_settings
last_request t [] is = refl
last_request t (x ∷ xs) is = absurd (omega (arith, is))
