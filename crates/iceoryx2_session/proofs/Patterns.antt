-- Each builder call of a command is one of which the laws over whole calls speak.
use Rattle.std.proofs.Common.{ℕ, List, Result}
use Rattle.iceoryx2_description.specs.declared.config.Config.{Config}
use Rattle.iceoryx2_event_builder.specs.Builder as event
use Rattle.iceoryx2_publish_subscribe_builder.specs.Builder as publish_subscribe
use Rattle.iceoryx2_request_response_builder.specs.Builder as request_response
use Rattle.iceoryx2_attribute.specs.Requirements.{Requirements}
use Rattle.iceoryx2_description.specs.declared.time.ClockFault.{ClockFault}
use Rattle.iceoryx2_description.specs.Span.{Span}
use Rattle.iceoryx2_rounds.specs.BuilderCalls.{Way}
use Rattle.iceoryx2_rounds.specs.LawfulCalls.{IsLawfulCall}
use Rattle.iceoryx2_builder.proofs.LawfulCalls.{event_call_is_lawful, publish_subscribe_call_is_lawful, request_response_call_is_lawful}
use Rattle.iceoryx2_builder.specs.declared.command.Settings.{Settings}
use Rattle.iceoryx2_builder.specs.declared.command.Settings.TheVariants as settings
use Rattle.iceoryx2_session.specs.PatternCalls.{hash_for, way_of}
use Rattle.iceoryx2_session.specs.Setters.{with_settings}
use Rattle.iceoryx2_session.specs.PublishSubscribe.{named_message}
use Rattle.iceoryx2_session.specs.RequestResponse.{named_messages}
use Rattle.iceoryx2_builder.specs.declared.command.Call.{Call}
use Rattle.iceoryx2_session.specs.Patterns.{call_by, builder_call}

-- one row a pattern
lawful_by : (config : Config) (node : ℕ) (name : List ℕ) (way : Way) (attributes : Requirements) (now : Result Span ClockFault) (settings : Settings)
    → IsLawfulCall (call_by config node name way attributes now settings).call
lawful_by config node name way attributes now (settings.Event xs) =
    event_call_is_lawful hash_for (with_settings event.with_setting (event.fresh_builder node name config.event) xs.items)
    way attributes.pairs attributes now
lawful_by config node name way attributes now (settings.PublishSubscribe xs) =
    let b = with_settings publish_subscribe.with_setting (publish_subscribe.fresh_builder node name config.publish_subscribe) xs.items in
    publish_subscribe_call_is_lawful hash_for b (named_message b) way attributes.pairs attributes
lawful_by config node name way attributes now (settings.RequestResponse xs) =
    let b = with_settings request_response.with_setting (request_response.fresh_builder node name config.request_response) xs.items in
    request_response_call_is_lawful hash_for b (named_messages b) way attributes.pairs attributes

pub call_is_lawful : (config : Config) (call : Call) → IsLawfulCall (builder_call config call).call
call_is_lawful config call = lawful_by config call.node call.name (way_of call.how) call.attributes call.now call.settings
