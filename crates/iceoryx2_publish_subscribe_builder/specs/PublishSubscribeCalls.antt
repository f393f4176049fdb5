-- What a call of a builder of publish-subscribe is.
use Rattle.std.specs.Prelude.{ℕ, List, Ok, true}
use Rattle.iceoryx2_attribute.specs.Attributes.{Pair}
use Rattle.iceoryx2_attribute.specs.Requirements.{Requirements}
use Rattle.iceoryx2_types.specs.Types.{Message}
use Rattle.iceoryx2_description.specs.declared.description.ServiceHash.{ServiceHash}
use Rattle.iceoryx2_description.specs.Span.{zero_span}
use Rattle.iceoryx2_errors.specs.declared.error.publish_subscribe.PublishSubscribeOpenError.{PublishSubscribeOpenError}
use Rattle.iceoryx2_errors.specs.declared.error.publish_subscribe.PublishSubscribeCreateError.{PublishSubscribeCreateError}
use Rattle.iceoryx2_rounds.specs.declared.caller.Caller.{Caller}
use Rattle.iceoryx2_rounds.specs.BuilderCalls.{BuilderCall, Way}
use Rattle.iceoryx2_rounds.specs.Facts.{caller_of}
use Rattle.iceoryx2_publish_subscribe_builder.specs.declared.publish_subscribe.demand.PreparedDemand.{PreparedDemand}
use Rattle.iceoryx2_publish_subscribe_builder.specs.PublishSubscribe.{prepared_adjusted, prepared_meaning}
use Rattle.iceoryx2_publish_subscribe_builder.specs.PublishSubscribe.{publish_subscribe_retried}
use Rattle.iceoryx2_publish_subscribe_builder.specs.Builder.{PublishSubscribeBuilderState, prefix_of_publish_subscribe}

-- Who calls: the service's hash is made by this hasher. It doesn't ask the clock: its time is zero.
abbrev pub publish_subscribe_caller : (hash_of : ℕ → List ℕ → ServiceHash) → PublishSubscribeBuilderState → Caller
publish_subscribe_caller hash_of b =
    caller_of hash_of prefix_of_publish_subscribe (record { node = b.node; name = b.name }) (Ok zero_span)

-- Its messages are of these types. A create defines the pairs, and an open requires pairs and keys.
abbrev pub publish_subscribe_call : (hash_of : ℕ → List ℕ → ServiceHash) → PublishSubscribeBuilderState → Message → Way
    → List Pair → Requirements
    → BuilderCall PreparedDemand PublishSubscribeOpenError PublishSubscribeCreateError
publish_subscribe_call hash_of b message way defined required = record {
  way = way;
  caller = publish_subscribe_caller hash_of b;
  meaning = prepared_meaning;
  adjusted = prepared_adjusted;
  retried = publish_subscribe_retried;
  asked = record { demand = b.demand; message = message };
  defined = defined;
  required = required;
  prepares = true;
}
