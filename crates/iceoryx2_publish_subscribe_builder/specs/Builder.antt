-- What a builder of publish-subscribe holds.
use Rattle.std.specs.Prelude.{ℕ, List, Some, false, true, codes}
use Rattle.iceoryx2_types.specs.Types.{Detail, Message, fixed_size}
use Rattle.iceoryx2_description.specs.declared.config.PublishSubscribe.{PublishSubscribe as Settings}
use Rattle.iceoryx2_rounds.specs.Requested.{no_types, requested_message}
use Rattle.iceoryx2_rounds.specs.declared.requested.RequestedTypes.{RequestedTypes}
use Rattle.iceoryx2_publish_subscribe_builder.specs.declared.publish_subscribe.TheConstants.{PREFIX}
use Rattle.iceoryx2_publish_subscribe_builder.specs.declared.publish_subscribe.demand.Marks.{Marks}
use Rattle.iceoryx2_publish_subscribe_builder.specs.declared.publish_subscribe.demand.PublishSubscribeDemand.{PublishSubscribeDemand}
use Rattle.iceoryx2_publish_subscribe_builder.specs.declared.publish_subscribe.setting.PublishSubscribeSetter.{PublishSubscribeSetter}
use Rattle.iceoryx2_publish_subscribe_builder.specs.declared.publish_subscribe.setting.PublishSubscribeSetter.TheVariants as set

-- a builder of publish-subscribe, whatever its payload and its user header are
pub record PublishSubscribeBuilderState : Type 0 where
  pub node : ℕ
  pub name : List ℕ
  pub demand : PublishSubscribeDemand
  pub types : RequestedTypes

-- the prefix of services of publish-subscribe
abbrev pub prefix_of_publish_subscribe : ℕ
prefix_of_publish_subscribe = PREFIX

-- the configured settings with nothing marked
abbrev pub fresh_demand : Settings → PublishSubscribeDemand
fresh_demand defaults = record {
  settings = defaults;
  marks = record {
    max_publishers = false;
    max_subscribers = false;
    subscriber_max_buffer_size = false;
    history_size = false;
    subscriber_max_borrowed_samples = false;
    enable_safe_overflow = false;
    max_nodes = false;
  };
}

-- what a builder asks that no setter has changed
abbrev pub fresh_builder : ℕ → List ℕ → Settings → PublishSubscribeBuilderState
fresh_builder node name defaults =
    record { node = node; name = name; demand = fresh_demand defaults; types = no_types }

-- with other settings and marks
abbrev pub demanding : PublishSubscribeBuilderState → (Settings → Settings) → (Marks → Marks)
    → PublishSubscribeBuilderState
demanding r settings marks =
    record r { demand = record { settings = settings r.demand.settings; marks = marks r.demand.marks } }

-- The builder after one setter: a setting's value is set, and the setting is marked. The last three are no settings of
-- the service, and mark nothing.
abbrev pub with_setting : PublishSubscribeBuilderState → PublishSubscribeSetter → PublishSubscribeBuilderState
with_setting r (set.MaxPublishers n) =
    demanding r (λ s. record s { max_publishers = n }) (λ m. record m { max_publishers = true })
with_setting r (set.MaxSubscribers n) =
    demanding r (λ s. record s { max_subscribers = n }) (λ m. record m { max_subscribers = true })
with_setting r (set.SubscriberMaxBufferSize n) =
    demanding r (λ s. record s { subscriber_max_buffer_size = n }) (λ m. record m { subscriber_max_buffer_size = true })
with_setting r (set.HistorySize n) =
    demanding r (λ s. record s { history_size = n }) (λ m. record m { history_size = true })
with_setting r (set.SubscriberMaxBorrowedSamples n) = demanding r
    (λ s. record s { subscriber_max_borrowed_samples = n })
    (λ m. record m { subscriber_max_borrowed_samples = true })
with_setting r (set.EnableSafeOverflow b) =
    demanding r (λ s. record s { enable_safe_overflow = b }) (λ m. record m { enable_safe_overflow = true })
with_setting r (set.MaxNodes n) =
    demanding r (λ s. record s { max_nodes = n }) (λ m. record m { max_nodes = true })
with_setting r (set.PayloadAlignment n) = record r { types = record r.types { alignment = Some n } }
with_setting r (set.PayloadType detail) = record r { types = record r.types { payload = Some detail } }
with_setting r (set.UserHeaderType detail) = record r { types = record r.types { user_header = Some detail } }

-- the header of each message that is published
abbrev pub message_header : Detail
message_header = fixed_size (codes "publish_subscribe::Header") 32 8

-- the message of a payload and a user header, with what stands in their place and how far the payload is aligned
abbrev pub message_for : (payload user_header : Detail) → RequestedTypes → Message
message_for payload user_header types = requested_message message_header payload user_header types
