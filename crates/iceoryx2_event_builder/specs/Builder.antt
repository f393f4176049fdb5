-- What a builder of events holds.
use Rattle.std.specs.Prelude.{ℕ, List, false, true}
use Rattle.std.specs.Option.{option_map}
use Rattle.iceoryx2_description.specs.declared.config.Event.{Event as EventDefaults}
use Rattle.iceoryx2_description.specs.declared.event.Deadline.{Deadline}
use Rattle.iceoryx2_description.specs.Span.{Span, zero_span}
use Rattle.iceoryx2_event_builder.specs.declared.event.TheConstants.{PREFIX}
use Rattle.iceoryx2_description.specs.declared.event.StaticConfig.{StaticConfig as Settings}
use Rattle.iceoryx2_event_builder.specs.declared.event.demand.EventDemand.{EventDemand}
use Rattle.iceoryx2_event_builder.specs.declared.event.demand.Marks.{Marks}
use Rattle.iceoryx2_event_builder.specs.declared.event.setting.EventSetter.{EventSetter}
use Rattle.iceoryx2_event_builder.specs.declared.event.setting.EventSetter.TheVariants as set

pub record EventBuilderState : Type 0 where
  pub node : ℕ
  pub name : List ℕ
  pub demand : EventDemand

-- the prefix of services of events
abbrev pub prefix_of_events : ℕ
prefix_of_events = PREFIX

-- a deadline as a builder asks for it: when the service is created is still to come
abbrev pub demanded_deadline : Span → Deadline
demanded_deadline value = record { value = value; creation_time = zero_span }

-- the configured settings with nothing marked
abbrev pub fresh_demand : EventDefaults → EventDemand
fresh_demand defaults = record {
  settings = record {
    max_notifiers = defaults.max_notifiers;
    max_listeners = defaults.max_listeners;
    event_id_max_value = defaults.event_id_max_value;
    max_nodes = defaults.max_nodes;
    notifier_created_event = defaults.notifier_created_event;
    notifier_dropped_event = defaults.notifier_dropped_event;
    notifier_dead_event = defaults.notifier_dead_event;
    deadline = option_map demanded_deadline defaults.deadline;
  };
  marks = record {
    max_notifiers = false;
    max_listeners = false;
    event_id_max_value = false;
    max_nodes = false;
    notifier_created_event = false;
    notifier_dropped_event = false;
    notifier_dead_event = false;
    deadline = false;
  };
}

-- what a builder asks that no setter has changed
abbrev pub fresh_builder : ℕ → List ℕ → EventDefaults → EventBuilderState
fresh_builder node name defaults = record { node = node; name = name; demand = fresh_demand defaults }

-- with other settings and marks
abbrev pub demanding : EventDemand → (Settings → Settings) → (Marks → Marks) → EventDemand
demanding d settings marks = record { settings = settings d.settings; marks = marks d.marks }

-- The settings after one setter: its value is set, and the setting is marked.
abbrev pub demand_with : EventDemand → EventSetter → EventDemand
demand_with d (set.MaxNotifiers n) =
    demanding d (λ s. record s { max_notifiers = n }) (λ m. record m { max_notifiers = true })
demand_with d (set.MaxListeners n) =
    demanding d (λ s. record s { max_listeners = n }) (λ m. record m { max_listeners = true })
demand_with d (set.EventIdMaxValue n) =
    demanding d (λ s. record s { event_id_max_value = n }) (λ m. record m { event_id_max_value = true })
demand_with d (set.MaxNodes n) =
    demanding d (λ s. record s { max_nodes = n }) (λ m. record m { max_nodes = true })
demand_with d (set.NotifierCreatedEvent id) =
    demanding d (λ s. record s { notifier_created_event = id }) (λ m. record m { notifier_created_event = true })
demand_with d (set.NotifierDroppedEvent id) =
    demanding d (λ s. record s { notifier_dropped_event = id }) (λ m. record m { notifier_dropped_event = true })
demand_with d (set.NotifierDeadEvent id) =
    demanding d (λ s. record s { notifier_dead_event = id }) (λ m. record m { notifier_dead_event = true })
demand_with d (set.Deadline value) =
    demanding d (λ s. record s { deadline = option_map demanded_deadline value }) (λ m. record m { deadline = true })

-- a builder after one setter
abbrev pub with_setting : EventBuilderState → EventSetter → EventBuilderState
with_setting builder setting = record builder { demand = demand_with builder.demand setting }
