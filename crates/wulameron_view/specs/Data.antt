-- The services of a world as JSON. The keys of an object stand in alphabetical order.
use Rattle.std.specs.Prelude.{ℕ, true, false, not, List, [], ◌∷◌, ◌++◌, map, Option, Some, None, codes}
use Rattle.std.specs.Borrow.{Bor}
use Rattle.std.specs.List.{flat_map}
use Rattle.hex.specs.Hex.{encode_lower}
use Rattle.serde_json.specs.Data.{Data, null, boolean, number, unsigned, string, array, object}
use Rattle.serde_json.specs.Data.{Members, no_members, member, put}
use Rattle.serde_json.specs.View.{items_of}
use Rattle.serde_json.specs.Written.{compact_text}
use Rattle.iceoryx2_attribute.specs.Attributes.{Pair}
use Rattle.iceoryx2_types.specs.Types.{Detail, Message}
use Rattle.iceoryx2_description.specs.Span.{Span}
use Rattle.iceoryx2_description.specs.declared.event.Deadline.{Deadline}
use Rattle.iceoryx2_description.specs.declared.request_response.StaticConfig.{StaticConfig as RequestSettings}
use Rattle.iceoryx2_description.specs.declared.description.MessagingPattern.{MessagingPattern}
use Rattle.iceoryx2_description.specs.declared.description.MessagingPattern.TheVariants as pattern
use Rattle.iceoryx2_monitoring.specs.declared.state.NodeState.{NodeState}
use Rattle.iceoryx2_monitoring.specs.declared.state.NodeState.TheVariants as state
use Rattle.iceoryx2_monitoring.specs.declared.state.NodeStatus.{NodeStatus}
use Rattle.wulameron_view.specs.declared.json.Leaf.{Leaf}
use Rattle.wulameron_view.specs.declared.json.Leaf.TheVariants as leaf
use Rattle.wulameron_view.specs.declared.services.Member.{Member}
use Rattle.wulameron_view.specs.declared.services.Service.{Service}
use Rattle.wulameron_view.specs.declared.services.Creation.{Creation}
use Rattle.wulameron_view.specs.declared.services.Services.{Services}
use Rattle.wulameron_view.specs.declared.settings.Value.{Value}
use Rattle.wulameron_view.specs.declared.settings.Value.TheVariants as value
use Rattle.wulameron_view.specs.Settings.{Setting, settings_of}
use Rattle.wulameron_view.specs.ShowTexts.{variant_text}
use Rattle.wulameron_view.specs.States.{state_of}

-- without a space, and a line's end
unfoldable pub json_line : Data → List ℕ
json_line d = compact_text d ++ codes "\n"

abbrev pub count : ℕ → Data
count n = number (unsigned n)

abbrev pub count_or_null : Option ℕ → Data
count_or_null None = null
count_or_null (Some n) = count n

abbrev pub array_of : {A : Type 0} → (A → Data) → List A → Data
array_of data_of xs = array (items_of (map data_of xs))

-- a value that holds no other one
abbrev pub leaf_data : Leaf → Data
leaf_data leaf.Null = null
leaf_data (leaf.Truth b) = boolean b
leaf_data (leaf.Number n) = count n
leaf_data (leaf.Hash h) = string (encode_lower h.0)
leaf_data (leaf.Word t) = string t.now
leaf_data (leaf.Text t) = string t.now

-- each under its key, beside what stands there
abbrev pub with_leaves : List (Bor (List ℕ) × Leaf) → Members → Members
with_leaves [] ms = ms
with_leaves (l ∷ rest) ms = with_leaves rest (put l.0.now (leaf_data l.1) ms)

-- ---- who is in a service

-- nothing is known of a node that was never claimed
abbrev pub alive_data : NodeState → Data
alive_data state.Alive = boolean true
alive_data state.Lost = boolean false
alive_data state.Dead = boolean false
alive_data state.DoesNotExist = null

abbrev pub state_data : NodeState → List ℕ
state_data state.Alive = codes "alive"
state_data state.Lost = codes "lost"
state_data state.Dead = codes "dead"
state_data state.DoesNotExist = codes "never_claimed"

abbrev pub member_data : List NodeStatus → Member → Data
member_data states m = object (
    member (codes "alive") (alive_data (state_of states m.node))
    (member (codes "factories") (count m.factories)
    (member (codes "node") (count m.node)
    (member (codes "state") (string (state_data (state_of states m.node))) no_members))))

-- ---- the list

abbrev pub pattern_word : MessagingPattern → List ℕ
pattern_word (pattern.Event s) = codes "event"
pattern_word (pattern.PublishSubscribe s) = codes "publish_subscribe"
pattern_word (pattern.RequestResponse s) = codes "request_response"

-- all but the nodes
abbrev pub service_facts : Service → Members
service_facts s =
    member (codes "creator") (count_or_null s.description.creator)
    (member (codes "hash") (string (encode_lower s.hash.0))
    (member (codes "max_nodes") (count s.max_nodes)
    (member (codes "name") (string s.description.name)
    (member (codes "number") (count s.number)
    (member (codes "pattern") (string (pattern_word s.description.pattern))
    (member (codes "state") (string (codes "published")) no_members))))))

abbrev pub service_data : List NodeStatus → Service → Data
service_data states s = object (
    member (codes "creator") (count_or_null s.description.creator)
    (member (codes "hash") (string (encode_lower s.hash.0))
    (member (codes "max_nodes") (count s.max_nodes)
    (member (codes "name") (string s.description.name)
    (member (codes "nodes") (array_of (member_data states) s.members.items)
    (member (codes "number") (count s.number)
    (member (codes "pattern") (string (pattern_word s.description.pattern))
    (member (codes "state") (string (codes "published")) no_members))))))))

-- neither name nor pattern nor room is known; all but the nodes
abbrev pub creation_facts : Creation → Members
creation_facts c =
    member (codes "creator") (count_or_null c.node)
    (member (codes "hash") (string (encode_lower c.hash.0))
    (member (codes "max_nodes") null
    (member (codes "name") null
    (member (codes "number") (count c.number)
    (member (codes "pattern") null
    (member (codes "state") (string (codes "being_created")) no_members))))))

abbrev pub creation_data : Creation → Data
creation_data c = object (
    member (codes "creator") (count_or_null c.node)
    (member (codes "hash") (string (encode_lower c.hash.0))
    (member (codes "max_nodes") null
    (member (codes "name") null
    (member (codes "nodes") (array (items_of []))
    (member (codes "number") (count c.number)
    (member (codes "pattern") null
    (member (codes "state") (string (codes "being_created")) no_members))))))))

-- The services that are published, and then those that are being created.
abbrev pub list_data : List NodeStatus → Services → Data
list_data states all = array (items_of (
    map (service_data states) all.published.items ++ map creation_data all.creations.items))

-- The same, a line for each.
abbrev pub list_lines : List NodeStatus → Services → List ℕ
list_lines states all =
    flat_map (λ s. json_line (service_data states s)) all.published.items
    ++ flat_map (λ c. json_line (creation_data c)) all.creations.items

-- ---- what was agreed

abbrev pub span_data : Span → Data
span_data s = object (
    member (codes "nanoseconds") (count s.nanoseconds) (member (codes "seconds") (count s.seconds) no_members))

abbrev pub deadline_data : Deadline → Data
deadline_data d = object (
    member (codes "creation_time") (span_data d.creation_time) (member (codes "length") (span_data d.value) no_members))

abbrev pub value_data : Value → Data
value_data (value.Number n) = count n
value_data (value.Truth b) = boolean b
value_data (value.Event id) = count_or_null id
value_data (value.Deadline None) = null
value_data (value.Deadline (Some d)) = deadline_data d

abbrev pub setting_data : Setting → Data
setting_data s = object (
    member (codes "is_default") (boolean (not s.differs)) (member (codes "value") (value_data s.value) no_members))

-- each under its name, beside what stands there
abbrev pub with_settings : List Setting → Members → Members
with_settings [] ms = ms
with_settings (s ∷ rest) ms = with_settings rest (put s.name (setting_data s) ms)

abbrev pub detail_data : Detail → Data
detail_data d = object (
    member (codes "alignment") (count d.alignment)
    (member (codes "kind") (string (variant_text d.variant))
    (member (codes "name") (string d.name)
    (member (codes "size") (count d.size) no_members))))

abbrev pub message_data : Message → Data
message_data m = object (
    member (codes "header") (detail_data m.header)
    (member (codes "payload") (detail_data m.payload)
    (member (codes "user_header") (detail_data m.user_header) no_members)))

-- what publishers send
abbrev pub sample_types : Message → Data
sample_types m = object (member (codes "message") (message_data m) no_members)

-- what clients and servers send
abbrev pub request_types : RequestSettings → Data
request_types s = object (
    member (codes "request") (message_data s.request_message_type_details)
    (member (codes "response") (message_data s.response_message_type_details) no_members))

-- by what is sent; a service of events has no types
abbrev pub types_data : MessagingPattern → Data
types_data (pattern.Event s) = object no_members
types_data (pattern.PublishSubscribe s) = sample_types s.message_type_details
types_data (pattern.RequestResponse s) = request_types s

abbrev pub attribute_data : Pair → Data
attribute_data p = object (
    member (codes "key") (string p.key) (member (codes "value") (string p.value) no_members))

-- ---- all that is known of a service

abbrev pub show_data : List NodeStatus → Service → Data
show_data states s = object (
    member (codes "attributes") (array_of attribute_data s.description.attributes)
    (member (codes "service") (service_data states s)
    (member (codes "settings") (object (with_settings (settings_of s.description.pattern) no_members))
    (member (codes "types") (types_data s.description.pattern) no_members))))
