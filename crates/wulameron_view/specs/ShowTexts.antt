-- All that is known of a service, line by line.
use Rattle.std.specs.Prelude.{ℕ, Bool, true, false, ◌&&◌, List, [], ◌++◌, length, Option, Some, None, codes, decimal}
use Rattle.std.specs.List.{flat_map}
use Rattle.hex.specs.Hex.{encode_lower}
use Rattle.iceoryx2_attribute.specs.Attributes.{Pair}
use Rattle.iceoryx2_types.specs.Types.{Detail, Message}
use Rattle.iceoryx2_types.specs.declared.types.TypeVariant.{TypeVariant}
use Rattle.iceoryx2_types.specs.declared.types.TypeVariant.TheVariants.{FixedSize, Dynamic}
use Rattle.iceoryx2_description.specs.Span.{Span}
use Rattle.iceoryx2_description.specs.declared.description.MessagingPattern.{MessagingPattern}
use Rattle.iceoryx2_description.specs.declared.description.MessagingPattern.TheVariants as pattern
use Rattle.iceoryx2_description.specs.declared.request_response.StaticConfig.{StaticConfig as RequestSettings}
use Rattle.iceoryx2_monitoring.specs.declared.state.NodeStatus.{NodeStatus}
use Rattle.wulameron_view.specs.declared.services.Member.{Member}
use Rattle.wulameron_view.specs.declared.services.Service.{Service}
use Rattle.wulameron_view.specs.declared.settings.Value.{Value}
use Rattle.wulameron_view.specs.declared.settings.Value.TheVariants as value
use Rattle.negotiate_lines.specs.Escapes.{escaped}
use Rattle.wulameron_view.specs.ListTexts.{node_or_dash, pattern_term}
use Rattle.wulameron_view.specs.Settings.{Setting, settings_of}
use Rattle.wulameron_view.specs.States.{is_dead, state_of, state_word}
use Rattle.wulameron_view.specs.Tables.{red}

-- ---- the service

unfoldable pub name_line : List ℕ → List ℕ
name_line name = codes "name: " ++ (escaped name ++ codes "\n")

unfoldable pub identity_lines : Service → List ℕ
identity_lines s =
    codes "pattern: " ++ (pattern_term s.description.pattern
    ++ (codes "\nhash: " ++ (encode_lower s.hash.0
    ++ (codes "\nnumber: " ++ (decimal s.number ++ codes "\n")))))

unfoldable pub creator_line : Option ℕ → List ℕ
creator_line creator = codes "creator: " ++ (node_or_dash creator ++ codes "\n")

-- ---- its settings

abbrev pub truth_text : Bool → List ℕ
truth_text true = codes "true"
truth_text false = codes "false"

-- seconds and nanoseconds around a comma, as in a command's term, and what stands after them
abbrev pub span_and : Span → List ℕ → List ℕ
span_and s rest = decimal s.seconds ++ (codes "," ++ (decimal s.nanoseconds ++ rest))

abbrev pub value_text : Value → List ℕ
value_text (value.Number n) = decimal n
value_text (value.Truth b) = truth_text b
value_text (value.Event None) = codes "none"
value_text (value.Event (Some id)) = decimal id
value_text (value.Deadline None) = codes "none"
value_text (value.Deadline (Some d)) =
    span_and d.value (codes " (created at " ++ span_and d.creation_time (codes ")"))

-- what differs from the default is marked
abbrev pub mark : Bool → List ℕ
mark true = codes "* "
mark false = codes "  "

unfoldable pub setting_line : Setting → List ℕ
setting_line s = mark s.differs ++ (s.name ++ (codes ": " ++ (value_text s.value ++ codes "\n")))

-- ---- the types of its messages

abbrev pub variant_text : TypeVariant → List ℕ
variant_text FixedSize = codes "fixed"
variant_text Dynamic = codes "dynamic"

unfoldable pub kind_text : (name : List ℕ) → TypeVariant → List ℕ
kind_text name variant = codes "  " ++ (name ++ (codes ": " ++ (variant_text variant ++ codes " ")))

unfoldable pub measure_text : (size alignment : ℕ) → List ℕ
measure_text size alignment =
    codes ", size " ++ (decimal size ++ (codes ", alignment " ++ (decimal alignment ++ codes "\n")))

unfoldable pub part_line : (name : List ℕ) → Detail → List ℕ
part_line name d = kind_text name d.variant ++ (escaped d.name ++ measure_text d.size d.alignment)

-- the header, which no term names, and user header and payload by the terms
unfoldable pub message_lines : (header user_header payload : List ℕ) → Message → List ℕ
message_lines header user_header payload m =
    part_line header m.header ++ (part_line user_header m.user_header ++ part_line payload m.payload)

abbrev pub call_lines : RequestSettings → List ℕ
call_lines s =
    message_lines (codes "header_of_requests") (codes "request_header") (codes "request_payload")
    s.request_message_type_details
    ++ message_lines (codes "header_of_responses") (codes "response_header") (codes "response_payload")
    s.response_message_type_details

abbrev pub type_lines : MessagingPattern → List ℕ
type_lines (pattern.Event s) = []
type_lines (pattern.PublishSubscribe s) =
    message_lines (codes "header") (codes "user_header") (codes "payload") s.message_type_details
type_lines (pattern.RequestResponse s) = call_lines s

-- ---- its attributes

unfoldable pub attribute_line : Pair → List ℕ
attribute_line p = codes "attribute " ++ (escaped p.key ++ (codes ": " ++ (escaped p.value ++ codes "\n")))

-- ---- who is in it

unfoldable pub room_line : Service → List ℕ
room_line s =
    codes "nodes: " ++ (decimal (length s.members.items) ++ (codes "/" ++ (decimal s.max_nodes ++ codes "\n")))

unfoldable pub factories_text : Member → List ℕ
factories_text m = codes "node " ++ (decimal m.node ++ (codes ": " ++ (decimal m.factories ++ codes " factories, ")))

-- that it is dead is red
abbrev pub member_line : (colours : Bool) → List NodeStatus → Member → List ℕ
member_line colours states m =
    factories_text m ++ (red (colours && is_dead states m.node) (state_word (state_of states m.node)) ++ codes "\n")

unfoldable pub explanation : List ℕ
explanation = codes "* differs from the default of a create\n"

-- ---- all of it

unfoldable pub head_lines : Service → List ℕ
head_lines s = name_line s.description.name ++ (identity_lines s ++ creator_line s.description.creator)

unfoldable pub agreed_lines : Service → List ℕ
agreed_lines s =
    flat_map setting_line (settings_of s.description.pattern) ++ (type_lines s.description.pattern
    ++ flat_map attribute_line s.description.attributes)

-- The service, what was agreed, who is in it, and what the mark means.
abbrev pub show_text : (colours : Bool) → List NodeStatus → Service → List ℕ
show_text colours states s =
    head_lines s ++ (agreed_lines s ++ (room_line s
    ++ (flat_map (member_line colours states) s.members.items ++ explanation)))
