-- What the service offers that a refused open required otherwise.
use Rattle.std.specs.Prelude.{ℕ, Bool, List, [], ◌++◌, ◌||◌, if◌then◌else◌, codes}
use Rattle.iceoryx2_description.specs.Description.{Description}
use Rattle.iceoryx2_description.specs.declared.description.MessagingPattern.{MessagingPattern}
use Rattle.iceoryx2_description.specs.declared.description.MessagingPattern.TheVariants as pattern
use Rattle.iceoryx2_description.specs.declared.publish_subscribe.StaticConfig.{StaticConfig as SampleSettings}
use Rattle.iceoryx2_description.specs.declared.request_response.StaticConfig.{StaticConfig as RequestSettings}
use Rattle.iceoryx2_builder.specs.declared.command.Call.{Call}
use Rattle.iceoryx2_builder.specs.declared.command.Settings.{Settings}
use Rattle.iceoryx2_builder.specs.declared.command.Settings.TheVariants as setting
use Rattle.iceoryx2_errors.specs.Reasons.{reason_of}
use Rattle.iceoryx2_errors.specs.declared.refusal.Reason.{Reason}
use Rattle.iceoryx2_errors.specs.declared.refusal.Reason.TheVariants as reason
use Rattle.iceoryx2_errors.specs.declared.refusal.Refusal.{Refusal}
use Rattle.iceoryx2_errors.specs.contracts.refusal.ReasonPartialEq.TheImpl as same_reason
use Rattle.iceoryx2_publish_subscribe_builder.specs.declared.publish_subscribe.setting.PublishSubscribeSetter.{PublishSubscribeSetter}
use Rattle.iceoryx2_request_response_builder.specs.Builder.{Messages}
use Rattle.iceoryx2_request_response_builder.specs.declared.request_response.setting.RequestResponseSetter.{RequestResponseSetter}
use Rattle.explain_serve.specs.Attributes.{lacking_lines}
use Rattle.explain_serve.specs.Comparisons.{event_compared, publish_subscribe_compared, request_response_compared}
use Rattle.explain_serve.specs.Messages.{asked_message, asked_messages, message_lines}
use Rattle.explain_serve.specs.Settings.{required_lines}

-- ---- settings or types

abbrev pub publish_subscribe_required : Reason → List PublishSubscribeSetter → SampleSettings → List ℕ
publish_subscribe_required why setters there =
    if same_reason.ghosts.eq why reason.IncompatibleTypes
    then message_lines (codes "user_header") (codes "payload") (asked_message setters) there.message_type_details
    else required_lines publish_subscribe_compared there why setters

-- whether the reason is the types of requests or of responses
abbrev pub is_by_types : Reason → Bool
is_by_types why = same_reason.ghosts.eq why reason.IncompatibleRequestType
    || same_reason.ghosts.eq why reason.IncompatibleResponseType

-- of a request each part, and of a response
abbrev pub messages_lines : Messages → RequestSettings → List ℕ
messages_lines asked there =
    message_lines (codes "request_header") (codes "request_payload") asked.request there.request_message_type_details
    ++ message_lines (codes "response_header") (codes "response_payload") asked.response
    there.response_message_type_details

abbrev pub request_response_required : Reason → List RequestResponseSetter → RequestSettings → List ℕ
request_response_required why setters there =
    if is_by_types why then messages_lines (asked_messages setters) there
    else required_lines request_response_compared there why setters

-- of a service of the call's pattern
abbrev pub setting_lines : Settings → Reason → MessagingPattern → List ℕ
setting_lines (setting.Event setters) why (pattern.Event there) = required_lines event_compared there why setters.items
setting_lines (setting.PublishSubscribe setters) why (pattern.PublishSubscribe there) =
    publish_subscribe_required why setters.items there
setting_lines (setting.RequestResponse setters) why (pattern.RequestResponse there) =
    request_response_required why setters.items there
setting_lines _ why _ = []

-- What a call required, and what the service of this description offers.
abbrev pub offer_lines : Call → Refusal → Description → List ℕ
offer_lines call refused d =
    if same_reason.ghosts.eq (reason_of refused) reason.IncompatibleAttributes
    then lacking_lines call.attributes d.attributes
    else setting_lines call.settings (reason_of refused) d.pattern
