use Rattle.std.proofs.Common.{◌≡◌, ℕ, List, Option, Result, sym, subst}
use Rattle.iceoryx2_access.specs.Letter.{Letter}
use Rattle.iceoryx2_access.specs.Registered.{Registered}
use Rattle.iceoryx2_description.specs.declared.config.Config.{Config}
use Rattle.iceoryx2_builder.specs.declared.command.Call.{Call}
use Rattle.iceoryx2_errors.specs.declared.refusal.Refusal.{Refusal}
use Rattle.iceoryx2_builder.specs.declared.command.Settings.{Settings}
use Rattle.iceoryx2_event_builder.specs.Builder as event
use Rattle.iceoryx2_event_builder.specs.Builder.{EventBuilderState}
use Rattle.iceoryx2_publish_subscribe_builder.specs.Builder as publish_subscribe
use Rattle.iceoryx2_publish_subscribe_builder.specs.Builder.{PublishSubscribeBuilderState}
use Rattle.iceoryx2_request_response_builder.specs.Builder as request_response
use Rattle.iceoryx2_request_response_builder.specs.Builder.{RequestResponseBuilderState}
use Rattle.iceoryx2_session.specs.Events.{event_pattern_call}
use Rattle.iceoryx2_session.specs.PatternCalls.{PatternCall, way_of}
use Rattle.iceoryx2_session.specs.Patterns.{builder_call, call_by}
use Rattle.iceoryx2_session.specs.PublishSubscribe.{publish_subscribe_pattern_call}
use Rattle.iceoryx2_session.specs.RequestResponse.{request_response_pattern_call}
use Rattle.iceoryx2_session.specs.Sessions.{OpensBy}
use Rattle.iceoryx2_session.specs.Setters.{with_settings}
use Rattle.iceoryx2_session.proofs.session.build.Goals as goal

-- the call of the pattern that the settings are of
chosen : {S : Type 0} (step : S → Letter → S → Type 0) (config : Config) (call : Call) (x : Settings) (s : S) (slots : List (Option Registered)) (answer : Result ℕ Refusal) (t : S) (after : List (Option Registered)) → call.settings ≡ x
    → OpensBy step (call_by config call.node call.name (way_of call.how) call.attributes call.now x) s slots call.slot answer t after → OpensBy step (builder_call config call) s slots call.slot answer t after
chosen step config call x s slots answer t after is built =
    subst (λ y. OpensBy step (call_by config call.node call.name (way_of call.how) call.attributes call.now y) s slots call.slot answer t after) (sym is) built

-- the call of a builder that is told in another way
moved : {S B : Type 0} (step : S → Letter → S → Type 0) (call_of : B → PatternCall) (b d : B) (s : S) (slots : List (Option Registered)) (k : ℕ) (answer : Result ℕ Refusal) (t : S) (after : List (Option Registered)) → b ≡ d
    → OpensBy step (call_of b) s slots k answer t after → OpensBy step (call_of d) s slots k answer t after
moved step call_of b d s slots k answer t after e built = subst (λ x. OpensBy step (call_of x) s slots k answer t after) e built

pub returns-in-Event : goal.returns-in-Event
returns-in-Event g c =
    let call = c.args.call in
    let fresh = rw c.new-base.ensures at c.new-builder.ensures in
    chosen g.S.Storage.step c.args.config.now call _ _ _ _ _ _ c.in-Event.is
    (moved g.S.Storage.step (λ (b : EventBuilderState). event_pattern_call (with_settings event.with_setting b c.in-Event.settings.items) (way_of call.how) call.attributes call.now) _ _ _ _ _ _ _ _ fresh c.call.ensures)

pub returns-in-PublishSubscribe : goal.returns-in-PublishSubscribe
returns-in-PublishSubscribe g c =
    let call = c.args.call in
    let fresh = rw (c.new.ensures, c.new-base.ensures) at c.user_header-builder.ensures in
    chosen g.S.Storage.step c.args.config.now call _ _ _ _ _ _ c.in-PublishSubscribe.is
    (moved g.S.Storage.step (λ (b : PublishSubscribeBuilderState). publish_subscribe_pattern_call (with_settings publish_subscribe.with_setting b c.in-PublishSubscribe.settings.items) (way_of call.how) call.attributes) _ _ _ _ _ _ _ _ fresh c.call-in-PublishSubscribe.ensures)

pub returns-in-RequestResponse : goal.returns-in-RequestResponse
returns-in-RequestResponse g c =
    let call = c.args.call in
    let fresh = rw (c.request_user_header.ensures, c.new-in-RequestResponse.ensures, c.new-base.ensures) at c.response_user_header-builder.ensures in
    chosen g.S.Storage.step c.args.config.now call _ _ _ _ _ _ c.in-RequestResponse.is
    (moved g.S.Storage.step (λ (b : RequestResponseBuilderState). request_response_pattern_call (with_settings request_response.with_setting b c.in-RequestResponse.settings.items) (way_of call.how) call.attributes) _ _ _ _ _ _ _ _ fresh c.call-in-RequestResponse.ensures)
