-- Which builder a command calls: the one place where the settings choose the pattern.
use Rattle.std.specs.Prelude.{ℕ, List, Result}
use Rattle.iceoryx2_attribute.specs.Requirements.{Requirements}
use Rattle.iceoryx2_description.specs.declared.config.Config.{Config}
use Rattle.iceoryx2_description.specs.declared.time.ClockFault.{ClockFault}
use Rattle.iceoryx2_description.specs.Span.{Span}
use Rattle.iceoryx2_rounds.specs.BuilderCalls.{Way}
use Rattle.iceoryx2_event_builder.specs.Builder as event
use Rattle.iceoryx2_publish_subscribe_builder.specs.Builder as publish_subscribe
use Rattle.iceoryx2_request_response_builder.specs.Builder as request_response
use Rattle.iceoryx2_builder.specs.declared.command.Settings.{Settings}
use Rattle.iceoryx2_builder.specs.declared.command.Settings.TheVariants as settings
use Rattle.iceoryx2_builder.specs.declared.command.Call.{Call}
use Rattle.iceoryx2_session.specs.PatternCalls.{PatternCall, way_of}
use Rattle.iceoryx2_session.specs.Setters.{with_settings}
use Rattle.iceoryx2_session.specs.Events.{event_pattern_call}
use Rattle.iceoryx2_session.specs.PublishSubscribe.{publish_subscribe_pattern_call}
use Rattle.iceoryx2_session.specs.RequestResponse.{request_response_pattern_call}

-- by the pattern of the settings, one row each
abbrev pub call_by
    : Config → ℕ → List ℕ → Way → Requirements → Result Span ClockFault → Settings → PatternCall
call_by config node name way attributes now (settings.Event xs) =
    event_pattern_call (with_settings event.with_setting (event.fresh_builder node name config.event) xs.items)
    way attributes now
call_by config node name way attributes now (settings.PublishSubscribe xs) =
    publish_subscribe_pattern_call (with_settings publish_subscribe.with_setting
    (publish_subscribe.fresh_builder node name config.publish_subscribe) xs.items) way attributes
call_by config node name way attributes now (settings.RequestResponse xs) =
    request_response_pattern_call (with_settings request_response.with_setting
    (request_response.fresh_builder node name config.request_response) xs.items) way attributes

-- what a command's call asks
abbrev pub builder_call : Config → Call → PatternCall
builder_call config call =
    call_by config call.node call.name (way_of call.how) call.attributes call.now call.settings
