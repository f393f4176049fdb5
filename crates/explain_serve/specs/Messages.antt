-- What a call required of the types of its messages, and what the service offers: of each part, whether a term named it
-- or not.
use Rattle.std.specs.Prelude.{ℕ, List, [], ◌++◌, codes, decimal}
use Rattle.iceoryx2_types.specs.Types.{Detail, Message}
use Rattle.iceoryx2_types.specs.declared.types.TypeVariant.{TypeVariant}
use Rattle.iceoryx2_types.specs.declared.types.TypeVariant.TheVariants.{FixedSize, Dynamic}
use Rattle.iceoryx2_rounds.specs.Requested.{no_types}
use Rattle.iceoryx2_rounds.specs.declared.requested.RequestedTypes.{RequestedTypes}
use Rattle.iceoryx2_description.specs.Defaults.{default_publish_subscribe, default_request_response}
use Rattle.iceoryx2_publish_subscribe_builder.specs.Builder as publish_subscribe
use Rattle.iceoryx2_publish_subscribe_builder.specs.declared.publish_subscribe.setting.PublishSubscribeSetter.{PublishSubscribeSetter}
use Rattle.iceoryx2_request_response_builder.specs.Builder.{Messages}
use Rattle.iceoryx2_request_response_builder.specs.Builder as request_response
use Rattle.iceoryx2_request_response_builder.specs.declared.request_response.requested.RequestedMessages.{RequestedMessages}
use Rattle.iceoryx2_request_response_builder.specs.declared.request_response.setting.RequestResponseSetter.{RequestResponseSetter}
use Rattle.iceoryx2_session.specs.PublishSubscribe.{named_message}
use Rattle.iceoryx2_session.specs.RequestResponse.{named_messages}
use Rattle.iceoryx2_session.specs.Setters.{with_settings}
use Rattle.explain_serve.specs.Settings.{offer_line}

-- ---- the message that a session's builder asks for after these setters

-- a builder with these types, whoever calls and whatever is configured
abbrev pub sample_builder : RequestedTypes → publish_subscribe.PublishSubscribeBuilderState
sample_builder types = record (publish_subscribe.fresh_builder 0 [] default_publish_subscribe) { types = types }

abbrev pub sample_builder_after : RequestedTypes → List PublishSubscribeSetter
    → publish_subscribe.PublishSubscribeBuilderState
sample_builder_after types setters = with_settings publish_subscribe.with_setting (sample_builder types) setters

-- the types are no settings, so they are the same whatever else the builder asks
abbrev pub asked_message : List PublishSubscribeSetter → Message
asked_message setters = named_message (sample_builder_after no_types setters)

-- the same of requests and responses
abbrev pub request_builder : RequestedMessages → request_response.RequestResponseBuilderState
request_builder types = record (request_response.fresh_builder 0 [] default_request_response) { types = types }

abbrev pub request_builder_after : RequestedMessages → List RequestResponseSetter
    → request_response.RequestResponseBuilderState
request_builder_after types setters = with_settings request_response.with_setting (request_builder types) setters

abbrev pub asked_messages : List RequestResponseSetter → Messages
asked_messages setters = named_messages (request_builder_after request_response.no_message_types setters)

-- ---- its parts beside those of the service

abbrev pub variant_text : TypeVariant → List ℕ
variant_text FixedSize = codes "fixed"
variant_text Dynamic = codes "dynamic"

-- its four parts, with a comma between two
abbrev pub detail_text : Detail → List ℕ
detail_text d =
    variant_text d.variant ++ (codes "," ++ (d.name ++ (codes "," ++ (decimal d.size
    ++ (codes "," ++ decimal d.alignment)))))

unfoldable pub part_line : (name : List ℕ) → (required offered : Detail) → List ℕ
part_line name required offered = offer_line name (detail_text required) (detail_text offered)

-- Of each part a line: of the header, which no term names, and of user header and payload by these terms.
unfoldable pub message_lines : (user_header payload : List ℕ) → (required offered : Message) → List ℕ
message_lines user_header payload required offered =
    part_line (codes "header") required.header offered.header
    ++ (part_line user_header required.user_header offered.user_header
    ++ part_line payload required.payload offered.payload)
