-- What the nodes of a service agreed on, setting by setting, each under the name of a command's term.
use Rattle.std.specs.Prelude.{ℕ, Bool, true, false, not, ◌&&◌, ◌==◌, List, [], ◌∷◌, Option, Some, None}
use Rattle.iceoryx2_description.specs.Span.{Span}
use Rattle.iceoryx2_description.specs.Defaults.{default_event, default_publish_subscribe, default_request_response}
use Rattle.iceoryx2_description.specs.declared.event.Deadline.{Deadline}
use Rattle.iceoryx2_description.specs.declared.event.StaticConfig.{StaticConfig as EventSettings}
use Rattle.iceoryx2_description.specs.declared.publish_subscribe.StaticConfig.{StaticConfig as SampleSettings}
use Rattle.iceoryx2_description.specs.declared.request_response.StaticConfig.{StaticConfig as RequestSettings}
use Rattle.iceoryx2_description.specs.declared.description.MessagingPattern.{MessagingPattern}
use Rattle.iceoryx2_description.specs.declared.description.MessagingPattern.TheVariants as pattern
use Rattle.negotiate_lines.specs.Vocabulary.{names_of}
use Rattle.negotiate_lines.specs.SettingTerms.{event_rows, publish_subscribe_rows, request_response_rows}
use Rattle.wulameron_view.specs.declared.settings.Value.{Value}
use Rattle.wulameron_view.specs.declared.settings.Value.TheVariants as value

-- a value that was agreed, and whether it differs from what a create has that isn't given it
abbrev pub Fact : Type 0
Fact = Value × Bool

pub record Setting : Type 0 where
  pub name : List ℕ
  pub value : Value
  pub differs : Bool

abbrev pub setting_of : List ℕ → Fact → Setting
setting_of name f = record { name = name; value = f.0; differs = f.1 }

-- ---- when a value is the default

abbrev pub same_truth : Bool → Bool → Bool
same_truth true b = b
same_truth false b = not b

abbrev pub same_event : Option ℕ → Option ℕ → Bool
same_event None None = true
same_event (Some a) (Some b) = a == b
same_event _ _ = false

-- of a deadline its length counts, and not when the service was created
abbrev pub same_deadline : Option Deadline → Option Span → Bool
same_deadline None None = true
same_deadline (Some d) (Some s) = (d.value.seconds == s.seconds) && (d.value.nanoseconds == s.nanoseconds)
same_deadline _ _ = false

abbrev pub number : (agreed default : ℕ) → Fact
number n default = (value.Number n, not (n == default))

abbrev pub truth : (agreed default : Bool) → Fact
truth b default = (value.Truth b, not (same_truth b default))

abbrev pub event : (agreed default : Option ℕ) → Fact
event id default = (value.Event id, not (same_event id default))

abbrev pub deadline : (agreed : Option Deadline) → (default : Option Span) → Fact
deadline d default = (value.Deadline d, not (same_deadline d default))

-- ---- the settings of each pattern

-- The facts under these names, in order. The names of types that stand after them have none.
abbrev pub settings_by : List (List ℕ) → List Fact → List Setting
settings_by names [] = []
settings_by [] (fact ∷ facts) = []
settings_by (name ∷ names) (fact ∷ facts) = setting_of name fact ∷ settings_by names facts

abbrev pub event_settings : EventSettings → List Setting
event_settings s = let default = default_event in settings_by (names_of event_rows) (
    number s.max_notifiers default.max_notifiers
    ∷ number s.max_listeners default.max_listeners
    ∷ number s.event_id_max_value default.event_id_max_value
    ∷ number s.max_nodes default.max_nodes
    ∷ event s.notifier_created_event default.notifier_created_event
    ∷ event s.notifier_dropped_event default.notifier_dropped_event
    ∷ event s.notifier_dead_event default.notifier_dead_event
    ∷ deadline s.deadline default.deadline
    ∷ [])

abbrev pub publish_subscribe_settings : SampleSettings → List Setting
publish_subscribe_settings s =
    let default = default_publish_subscribe in settings_by (names_of publish_subscribe_rows) (
    number s.max_publishers default.max_publishers
    ∷ number s.max_subscribers default.max_subscribers
    ∷ number s.subscriber_max_buffer_size default.subscriber_max_buffer_size
    ∷ number s.history_size default.history_size
    ∷ number s.subscriber_max_borrowed_samples default.subscriber_max_borrowed_samples
    ∷ truth s.enable_safe_overflow default.enable_safe_overflow
    ∷ number s.max_nodes default.max_nodes
    ∷ [])

abbrev pub request_response_settings : RequestSettings → List Setting
request_response_settings s = let default = default_request_response in settings_by (names_of request_response_rows) (
    truth s.enable_safe_overflow_for_requests default.enable_safe_overflow_for_requests
    ∷ truth s.enable_safe_overflow_for_responses default.enable_safe_overflow_for_responses
    ∷ truth s.enable_fire_and_forget_requests default.enable_fire_and_forget_requests
    ∷ number s.max_active_requests_per_client default.max_active_requests_per_client
    ∷ number s.max_loaned_requests default.max_loaned_requests
    ∷ number s.max_borrowed_responses_per_pending_response default.max_borrowed_responses_per_pending_response
    ∷ number s.max_response_buffer_size default.max_response_buffer_size
    ∷ number s.max_servers default.max_servers
    ∷ number s.max_clients default.max_clients
    ∷ number s.max_nodes default.max_nodes
    ∷ [])

abbrev pub settings_of : MessagingPattern → List Setting
settings_of (pattern.Event s) = event_settings s
settings_of (pattern.PublishSubscribe s) = publish_subscribe_settings s
settings_of (pattern.RequestResponse s) = request_response_settings s
