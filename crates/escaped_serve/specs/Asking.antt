-- The line that asks for what was agreed on, and what a call asks for.
use Rattle.std.specs.Prelude.{ℕ, ◌≡◌, ◌≤◌, ◌<◌, ◌^◌, Bool, true, false, not, List, [], ◌∷◌, ◌++◌, map, filter, flat_map, fold}
use Rattle.std.specs.Prelude.{Option, Some, None, Ok, IfSome, String, codes, decimal, string_bytes}
use Rattle.std.specs.Option.{option_map}
use Rattle.std.specs.Global.{Global}
use Rattle.iceoryx2_attribute.specs.Attributes.{Pair}
use Rattle.iceoryx2_types.specs.declared.types.TypeVariant.{TypeVariant}
use Rattle.iceoryx2_types.specs.declared.types.TypeVariant.TheVariants.{FixedSize, Dynamic}
use Rattle.iceoryx2_types.specs.Types.{Detail, IsAlignment, Message, message_of}
use Rattle.iceoryx2_description.specs.Span.{IsSpan, Span, zero_span}
use Rattle.iceoryx2_description.specs.Messages.{IsMeasured}
use Rattle.iceoryx2_description.specs.Description.{Description}
use Rattle.iceoryx2_description.specs.declared.description.MessagingPattern.{MessagingPattern}
use Rattle.iceoryx2_description.specs.declared.description.MessagingPattern.TheVariants as pattern
use Rattle.iceoryx2_description.specs.declared.event.StaticConfig.{StaticConfig as EventConfig}
use Rattle.iceoryx2_description.specs.declared.publish_subscribe.StaticConfig.{StaticConfig as SampleConfig}
use Rattle.iceoryx2_description.specs.declared.request_response.StaticConfig.{StaticConfig as RequestConfig}
use Rattle.iceoryx2_event_builder.specs.Event.{created_deadline, deadline_value, event_meaning}
use Rattle.iceoryx2_event_builder.specs.Builder.{demand_with}
use Rattle.iceoryx2_event_builder.specs.declared.event.demand.EventDemand.{EventDemand}
use Rattle.iceoryx2_event_builder.specs.declared.event.setting.EventSetter.{EventSetter}
use Rattle.iceoryx2_event_builder.specs.declared.event.setting.EventSetter.TheVariants as events
use Rattle.iceoryx2_publish_subscribe_builder.specs.PublishSubscribe.{published_with as samples_published}
use Rattle.iceoryx2_publish_subscribe_builder.specs.Builder.{PublishSubscribeBuilderState, message_header, message_for}
use Rattle.iceoryx2_publish_subscribe_builder.specs.Builder.{with_setting as with_sample_setting}
use Rattle.iceoryx2_publish_subscribe_builder.specs.declared.publish_subscribe.setting.PublishSubscribeSetter.{PublishSubscribeSetter}
use Rattle.iceoryx2_publish_subscribe_builder.specs.declared.publish_subscribe.setting.PublishSubscribeSetter.TheVariants as samples
use Rattle.iceoryx2_request_response_builder.specs.RequestResponse.{published_with as requests_published}
use Rattle.iceoryx2_request_response_builder.specs.Builder.{RequestResponseBuilderState, messages_for, request_header}
use Rattle.iceoryx2_request_response_builder.specs.Builder.{response_header, with_setting as with_request_setting}
use Rattle.iceoryx2_request_response_builder.specs.declared.request_response.setting.RequestResponseSetter.{RequestResponseSetter}
use Rattle.iceoryx2_request_response_builder.specs.declared.request_response.setting.RequestResponseSetter.TheVariants as requests
use Rattle.iceoryx2_builder.specs.declared.command.Call.{Call}
use Rattle.iceoryx2_builder.specs.declared.command.Command.TheVariants as command
use Rattle.iceoryx2_builder.specs.declared.command.How.TheVariants as how
use Rattle.iceoryx2_builder.specs.declared.command.Settings.{Settings}
use Rattle.iceoryx2_builder.specs.declared.command.Settings.TheVariants as settings
use Rattle.negotiate_lines.specs.declared.leaf.Form.TheVariants as form
use Rattle.negotiate_lines.specs.declared.line.Line.{Line}
use Rattle.negotiate_lines.specs.declared.line.Line.TheVariants as line
use Rattle.negotiate_lines.specs.Leaves.{leaf_of}
use Rattle.negotiate_lines.specs.Lines.{IsLineIn}
use Rattle.negotiate_lines.specs.Vocabulary.{Takes, Vocabulary, VocabularyRow, number, truth, event, time, alignment, type}

-- ---- what is written of a value

abbrev pub truth_text : Bool → List ℕ
truth_text true = codes "true"
truth_text false = codes "false"

abbrev pub none_or_text : {A : Type 0} → (A → List ℕ) → Option A → List ℕ
none_or_text text_of None = codes "none"
none_or_text text_of (Some a) = text_of a

-- two texts around a byte
abbrev pub joined : ℕ → (front back : List ℕ) → List ℕ
joined byte front back = front ++ (byte ∷ back)

abbrev pub time_text : Span → List ℕ
time_text s = joined 44 (decimal s.seconds) (decimal s.nanoseconds)

abbrev pub variant_text : TypeVariant → List ℕ
variant_text FixedSize = codes "fixed"
variant_text Dynamic = codes "dynamic"

abbrev pub type_text : Detail → List ℕ
type_text d =
    joined 44 (variant_text d.variant) (joined 44 (leaf_of d.name) (joined 44 (decimal d.size) (decimal d.alignment)))

-- ---- settings with their values

-- what a setting's value is
abbrev pub ValueOf : {S : Type 0} → Takes S → Type 0
ValueOf (number setter) = ℕ
ValueOf (truth setter) = Bool
ValueOf (event setter) = Option ℕ
ValueOf (time setter) = Option Span
ValueOf (alignment setter) = ℕ
ValueOf (type setter) = Detail

-- it is within its limits
abbrev pub IsValue : {S : Type 0} → (takes : Takes S) → ValueOf takes → Type 0
IsValue (number setter) n = n < 2 ^ 64
IsValue (truth setter) b = Unit {0}
IsValue (event setter) id = IfSome id (λ n. n < 2 ^ 64)
IsValue (time setter) span = IfSome span IsSpan
IsValue (alignment setter) n = IsAlignment n × (n < 2 ^ 64)
IsValue (type setter) detail = IsMeasured detail

-- the setter that is made of it
abbrev pub setter_with : {S : Type 0} → (takes : Takes S) → ValueOf takes → S
setter_with (number setter) n = setter n
setter_with (truth setter) b = setter b
setter_with (event setter) id = setter id
setter_with (time setter) span = setter span
setter_with (alignment setter) n = setter n
setter_with (type setter) detail = setter detail

-- what is written of it
abbrev pub value_text : {S : Type 0} → (takes : Takes S) → ValueOf takes → List ℕ
value_text (number setter) n = decimal n
value_text (truth setter) b = truth_text b
value_text (event setter) id = none_or_text decimal id
value_text (time setter) span = none_or_text time_text span
value_text (alignment setter) n = decimal n
value_text (type setter) detail = type_text detail

-- S are the setters of a pattern's builder.
pub record Setting (S : Type 0) : Type 0 where
  pub name : List ℕ
  pub takes : Takes S
  pub value : ValueOf takes

abbrev pub set : {S : Type 0} → (name : List ℕ) → (takes : Takes S) → ValueOf takes → Setting S
set name takes value = record { name = name; takes = takes; value = value }

abbrev pub setters_of : {S : Type 0} → List (Setting S) → List S
setters_of settings = map (λ s. setter_with s.takes s.value) settings

-- a name and a value, around an equals sign
abbrev pub term_text : (name value : List ℕ) → List ℕ
term_text name value = joined 61 name value

abbrev pub terms_asking : {S : Type 0} → List (Setting S) → List (List ℕ)
terms_asking settings = map (λ s. term_text s.name (value_text s.takes s.value)) settings

-- ---- the settings of each pattern, in the order of its vocabulary; an alignment is told by its type

abbrev pub event_settings : EventConfig → List (Setting EventSetter)
event_settings s =
    set (codes "max_notifiers") (number events.MaxNotifiers) s.max_notifiers
    ∷ set (codes "max_listeners") (number events.MaxListeners) s.max_listeners
    ∷ set (codes "event_id_max_value") (number events.EventIdMaxValue) s.event_id_max_value
    ∷ set (codes "max_nodes") (number events.MaxNodes) s.max_nodes
    ∷ set (codes "notifier_created_event") (event events.NotifierCreatedEvent) s.notifier_created_event
    ∷ set (codes "notifier_dropped_event") (event events.NotifierDroppedEvent) s.notifier_dropped_event
    ∷ set (codes "notifier_dead_event") (event events.NotifierDeadEvent) s.notifier_dead_event
    ∷ set (codes "deadline") (time events.Deadline) (deadline_value s.deadline)
    ∷ []

abbrev pub sample_settings : SampleConfig → List (Setting PublishSubscribeSetter)
sample_settings s =
    set (codes "max_publishers") (number samples.MaxPublishers) s.max_publishers
    ∷ set (codes "max_subscribers") (number samples.MaxSubscribers) s.max_subscribers
    ∷ set (codes "subscriber_max_buffer_size") (number samples.SubscriberMaxBufferSize) s.subscriber_max_buffer_size
    ∷ set (codes "history_size") (number samples.HistorySize) s.history_size
    ∷ set (codes "subscriber_max_borrowed_samples") (number samples.SubscriberMaxBorrowedSamples)
    s.subscriber_max_borrowed_samples
    ∷ set (codes "enable_safe_overflow") (truth samples.EnableSafeOverflow) s.enable_safe_overflow
    ∷ set (codes "max_nodes") (number samples.MaxNodes) s.max_nodes
    ∷ set (codes "payload") (type samples.PayloadType) s.message_type_details.payload
    ∷ set (codes "user_header") (type samples.UserHeaderType) s.message_type_details.user_header
    ∷ []

abbrev pub request_settings : RequestConfig → List (Setting RequestResponseSetter)
request_settings s =
    set (codes "enable_safe_overflow_for_requests") (truth requests.EnableSafeOverflowForRequests)
    s.enable_safe_overflow_for_requests
    ∷ set (codes "enable_safe_overflow_for_responses") (truth requests.EnableSafeOverflowForResponses)
    s.enable_safe_overflow_for_responses
    ∷ set (codes "enable_fire_and_forget_requests") (truth requests.EnableFireAndForgetRequests)
    s.enable_fire_and_forget_requests
    ∷ set (codes "max_active_requests_per_client") (number requests.MaxActiveRequestsPerClient)
    s.max_active_requests_per_client
    ∷ set (codes "max_loaned_requests") (number requests.MaxLoanedRequests) s.max_loaned_requests
    ∷ set (codes "max_borrowed_responses_per_pending_response") (number requests.MaxBorrowedResponsesPerPendingResponse)
    s.max_borrowed_responses_per_pending_response
    ∷ set (codes "max_response_buffer_size") (number requests.MaxResponseBufferSize) s.max_response_buffer_size
    ∷ set (codes "max_servers") (number requests.MaxServers) s.max_servers
    ∷ set (codes "max_clients") (number requests.MaxClients) s.max_clients
    ∷ set (codes "max_nodes") (number requests.MaxNodes) s.max_nodes
    ∷ set (codes "request_payload") (type requests.RequestPayloadType) s.request_message_type_details.payload
    ∷ set (codes "request_header") (type requests.RequestHeaderType) s.request_message_type_details.user_header
    ∷ set (codes "response_payload") (type requests.ResponsePayloadType) s.response_message_type_details.payload
    ∷ set (codes "response_header") (type requests.ResponseHeaderType) s.response_message_type_details.user_header
    ∷ []

-- the rows of settings
abbrev pub rows_asked : {S : Type 0} → List (Setting S) → List (VocabularyRow S)
rows_asked settings = map (λ s. (s.name, s.takes)) settings

abbrev pub is_alignment : {S : Type 0} → Takes S → Bool
is_alignment (alignment setter) = true
is_alignment other = false

-- the rows of a pattern but those of alignments
abbrev pub rows_to_ask : {S : Type 0} → Vocabulary S → List (VocabularyRow S)
rows_to_ask v = filter (λ row. not (is_alignment row.1)) v.rows

-- ---- the line

-- the term by which calls of the pattern begin
abbrev pub pattern_word : MessagingPattern → List ℕ
pattern_word (pattern.Event s) = codes "event"
pattern_word (pattern.PublishSubscribe s) = codes "pubsub"
pattern_word (pattern.RequestResponse s) = codes "rr"

abbrev pub setting_words : MessagingPattern → List (List ℕ)
setting_words (pattern.Event s) = terms_asking (event_settings s)
setting_words (pattern.PublishSubscribe s) = terms_asking (sample_settings s)
setting_words (pattern.RequestResponse s) = terms_asking (request_settings s)

-- a key and a value, as a term
abbrev pub pair_word : Pair → List ℕ
pair_word p = term_text (codes "attribute") (joined 58 (leaf_of p.key) (leaf_of p.value))

abbrev pub pair_words : List Pair → List (List ℕ)
pair_words pairs = map pair_word pairs

-- words, each behind a blank
unfoldable pub behind : List (List ℕ) → List ℕ
behind words = flat_map (λ word. 32 ∷ word) words

-- the words behind the first
abbrev pub other_words : (node slot : ℕ) → Description → List (List ℕ)
other_words node slot d =
    codes "create" ∷ decimal node ∷ decimal slot ∷ leaf_of d.name ∷ (setting_words d.pattern ++ pair_words d.attributes)

-- The line by which a node asks for such a service in one of its slots.
abbrev pub asking : (node slot : ℕ) → Description → List ℕ
asking node slot d = pattern_word d.pattern ++ behind (other_words node slot d)

-- ASCII that is printed, or a blank: no end of a line
abbrev pub IsPrintable : ℕ → Type 0
IsPrintable b = (32 ≤ b) × (b ≤ 126)

-- the text has this behind it, and is else the same
abbrev pub Appends : (old new : String Global) → List ℕ → Type 0
Appends old new text = string_bytes new ≡ string_bytes old ++ text

-- ---- what a call asks for

-- the settings of a service of events that is created at this time
abbrev pub created_at : Span → EventConfig → EventConfig
created_at now s = record s { deadline = option_map (created_deadline now) s.deadline }

-- with the header that each message of the pattern has
abbrev pub with_header : Detail → Message → Message
with_header header m = message_of header m.user_header m.payload

-- Whatever was asked for before, these settings are asked for by these setters: a create publishes them, where none is
-- a zero that it raises. When the service is created is told by the clock, and the header of each message by the
-- pattern.
abbrev pub Publishes : MessagingPattern → Settings → Type 0
Publishes (pattern.Event s) (settings.Event setters) =
    (demand : EventDemand) (now : Span)
    → (event_meaning (fold demand_with demand setters.items)).published now ≡ pattern.Event (created_at now s)
Publishes (pattern.PublishSubscribe s) (settings.PublishSubscribe setters) =
    (builder : PublishSubscribeBuilderState) (payload user_header : Detail) → builder.types.alignment ≡ None
    → samples_published (fold with_sample_setting builder setters.items).demand.settings
    (message_for payload user_header (fold with_sample_setting builder setters.items).types)
    ≡ pattern.PublishSubscribe (record s {
      message_type_details = with_header message_header s.message_type_details;
    })
Publishes (pattern.RequestResponse s) (settings.RequestResponse setters) =
    (builder : RequestResponseBuilderState) (request request_user response response_user : Detail)
    → builder.types.request.alignment ≡ None → builder.types.response.alignment ≡ None
    → requests_published (fold with_request_setting builder setters.items).demand.settings
    (messages_for request request_user response response_user
    (fold with_request_setting builder setters.items).types).request
    (messages_for request request_user response response_user
    (fold with_request_setting builder setters.items).types).response
    ≡ pattern.RequestResponse (record s {
      request_message_type_details = with_header request_header s.request_message_type_details;
      response_message_type_details = with_header response_header s.response_message_type_details;
    })
Publishes p other = ⊥

-- The call asks for what was agreed on: a create of this node for this slot, by its name, its attributes and its
-- settings.
pub record AsksFor (node slot : ℕ) (d : Description) (call : Call) : Type 0 where
  pub how : call.how ≡ how.Create
  pub node_is : call.node ≡ node
  pub slot_is : call.slot ≡ slot
  pub name : call.name ≡ d.name
  pub attributes : call.attributes ≡ record { pairs = d.attributes; keys = [] }
  -- no time is told
  pub now_is : call.now ≡ Ok zero_span
  pub settings : Publishes d.pattern call.settings

-- What is written is a call that asks for what was agreed on.
abbrev pub IsAskedAgain : (node slot : ℕ) → Description → Type 0
IsAskedAgain node slot d =
    (call : Call) × IsLineIn form.Escaped (asking node slot d) (line.Command (command.Call call))
    × AsksFor node slot d call

-- A line that asks for what was agreed on, and is nothing else.
abbrev pub Asks : (node slot : ℕ) → Description → Line → Type 0
Asks node slot d (line.Command (command.Call call)) = AsksFor node slot d call
Asks node slot d other = ⊥
