-- The caller of a command's builder call is the node that the command names.
use Rattle.std.proofs.Common.{◌≡◌, ℕ, List, [], ◌∷◌, Result, refl, ◌∙◌}
use Rattle.iceoryx2_attribute.specs.Requirements.{Requirements}
use Rattle.iceoryx2_description.specs.declared.config.Config.{Config}
use Rattle.iceoryx2_description.specs.declared.time.ClockFault.{ClockFault}
use Rattle.iceoryx2_description.specs.Span.{Span}
use Rattle.iceoryx2_rounds.specs.BuilderCalls.{Way}
use Rattle.iceoryx2_event_builder.specs.Builder as event
use Rattle.iceoryx2_publish_subscribe_builder.specs.Builder as publish_subscribe
use Rattle.iceoryx2_publish_subscribe_builder.specs.declared.publish_subscribe.setting.PublishSubscribeSetter.{PublishSubscribeSetter}
use Rattle.iceoryx2_publish_subscribe_builder.specs.declared.publish_subscribe.setting.PublishSubscribeSetter.TheVariants as pubsub
use Rattle.iceoryx2_request_response_builder.specs.Builder as request_response
use Rattle.iceoryx2_request_response_builder.specs.declared.request_response.setting.RequestResponseSetter.{RequestResponseSetter}
use Rattle.iceoryx2_request_response_builder.specs.declared.request_response.setting.RequestResponseSetter.TheVariants as rr
use Rattle.iceoryx2_builder.specs.declared.command.Settings.{Settings}
use Rattle.iceoryx2_builder.specs.declared.command.Settings.TheVariants as settings
use Rattle.iceoryx2_builder.specs.declared.command.Call.{Call}
use Rattle.iceoryx2_session.specs.PatternCalls.{way_of}
use Rattle.iceoryx2_session.specs.Patterns.{call_by, builder_call}
use Rattle.iceoryx2_session.specs.Setters.{with_settings}

-- a field that no setter changes
kept_by_all : {B X : Type 0} (field : B → ℕ) (with_setting : B → X → B) → ((b : B) (x : X) → field (with_setting b x) ≡ field b)
    → (b : B) (xs : List X) → field (with_settings with_setting b xs) ≡ field b
unfolding with_settings
kept_by_all field with_setting kept b [] = refl
kept_by_all field with_setting kept b (x ∷ xs) = kept_by_all field with_setting kept (with_setting b x) xs ∙ kept b x

pubsub_node : (b : publish_subscribe.PublishSubscribeBuilderState) (x : PublishSubscribeSetter) → (publish_subscribe.with_setting b x).node ≡ b.node
pubsub_node b (pubsub.MaxPublishers n) = refl
pubsub_node b _ = refl

rr_node : (b : request_response.RequestResponseBuilderState) (x : RequestResponseSetter) → (request_response.with_setting b x).node ≡ b.node
rr_node b (rr.EnableSafeOverflowForRequests o) = refl
rr_node b _ = refl

caller_by : (config : Config) (node : ℕ) (name : List ℕ) (way : Way) (attributes : Requirements) (now : Result Span ClockFault) (xs : Settings)
    → (call_by config node name way attributes now xs).call.caller.node ≡ node
caller_by config node name way attributes now (settings.Event xs) =
    kept_by_all (λ (b : event.EventBuilderState). b.node) event.with_setting (λ b x. refl) (event.fresh_builder node name config.event) xs.items
caller_by config node name way attributes now (settings.PublishSubscribe xs) =
    kept_by_all (λ (b : publish_subscribe.PublishSubscribeBuilderState). b.node) publish_subscribe.with_setting pubsub_node
    (publish_subscribe.fresh_builder node name config.publish_subscribe) xs.items
caller_by config node name way attributes now (settings.RequestResponse xs) =
    kept_by_all (λ (b : request_response.RequestResponseBuilderState). b.node) request_response.with_setting rr_node
    (request_response.fresh_builder node name config.request_response) xs.items

pub caller_named : (config : Config) (call : Call) → (builder_call config call).call.caller.node ≡ call.node
caller_named config call = caller_by config call.node call.name (way_of call.how) call.attributes call.now call.settings
