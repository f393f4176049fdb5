-- Builder calls for services of publish-subscribe.
use Rattle.iceoryx2_types.specs.Types.{Message}
use Rattle.iceoryx2_attribute.specs.Requirements.{Requirements}
use Rattle.iceoryx2_errors.specs.declared.error.publish_subscribe.PublishSubscribeOpenError.{PublishSubscribeOpenError}
use Rattle.iceoryx2_errors.specs.declared.error.publish_subscribe.PublishSubscribeCreateError.{PublishSubscribeCreateError}
use Rattle.iceoryx2_errors.specs.declared.error.publish_subscribe.PublishSubscribeOpenOrCreateError.TheVariants as either
use Rattle.iceoryx2_rounds.specs.BuilderCalls.{Way}
use Rattle.iceoryx2_rounds.specs.declared.open_or_create.OpenOrCreateRefusal.{OpenOrCreateRefusal}
use Rattle.iceoryx2_rounds.specs.declared.open_or_create.OpenOrCreateRefusal.TheVariants as rounds
use Rattle.iceoryx2_publish_subscribe_builder.specs.declared.publish_subscribe.demand.PreparedDemand.{PreparedDemand}
use Rattle.iceoryx2_publish_subscribe_builder.specs.PublishSubscribeCalls.{publish_subscribe_call}
use Rattle.iceoryx2_publish_subscribe_builder.specs.Builder.{PublishSubscribeBuilderState, message_for}
use Rattle.iceoryx2_errors.specs.declared.refusal.Refusal.{Refusal}
use Rattle.iceoryx2_errors.specs.declared.refusal.Refusal.TheVariants as refusal
use Rattle.iceoryx2_session.specs.Markers.{payload_marker, user_header_marker}
use Rattle.iceoryx2_session.specs.PatternCalls.{PatternCall, hash_for, refusal_by}

-- the message of this builder, whose types are those that setters named
abbrev pub named_message : PublishSubscribeBuilderState → Message
named_message b = message_for payload_marker user_header_marker b.types

-- how the refusals of the rounds are carried
abbrev pub publish_subscribe_rounds
    : OpenOrCreateRefusal PublishSubscribeOpenError PublishSubscribeCreateError → Refusal
publish_subscribe_rounds (rounds.Open error) =
    refusal.PublishSubscribeOpenOrCreate (either.PublishSubscribeOpenError error)
publish_subscribe_rounds (rounds.Create error) =
    refusal.PublishSubscribeOpenOrCreate (either.PublishSubscribeCreateError error)
publish_subscribe_rounds rounds.SystemInFlux = refusal.PublishSubscribeOpenOrCreate either.SystemInFlux

-- Of a command's attributes a create defines the pairs, and an open requires all.
abbrev pub publish_subscribe_pattern_call : PublishSubscribeBuilderState → Way → Requirements → PatternCall
publish_subscribe_pattern_call b way attributes = record {
  asks = PreparedDemand;
  open_error = PublishSubscribeOpenError;
  create_error = PublishSubscribeCreateError;
  call = publish_subscribe_call hash_for b (named_message b) way attributes.pairs attributes;
  refusal_of = refusal_by refusal.PublishSubscribeCreate refusal.PublishSubscribeOpen publish_subscribe_rounds way;
}
