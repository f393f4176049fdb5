-- A builder of events is a builder like each other one.
use Rattle.std.proofs.Common.{◌≡◌, false, List, refl}
use Rattle.std.specs.Prelude.{map}
use Rattle.iceoryx2_attribute.specs.Attributes.{Pair}
use Rattle.iceoryx2_attribute.specs.Requirements.{Requirements}
use Rattle.iceoryx2_description.specs.Description.{Description}
use Rattle.iceoryx2_description.specs.declared.description.MessagingPattern.{MessagingPattern}
use Rattle.iceoryx2_description.specs.declared.description.MessagingPattern.TheVariants as existing
use Rattle.iceoryx2_errors.specs.declared.error.events.EventOpenError.{EventOpenError}
use Rattle.iceoryx2_errors.specs.declared.error.events.EventOpenError.TheVariants as opening
use Rattle.iceoryx2_rounds.specs.OwnAttributes.{attribute_clauses}
use Rattle.iceoryx2_rounds.specs.Verdict.{at_least, number_is, span_is}
use Rattle.iceoryx2_rounds.specs.EndsAtOnce.{EndsAtOnce}
use Rattle.iceoryx2_rounds.proofs.Ends.{Errs, attributes_err, both_err, rows_err, unmet_ends}
use Rattle.iceoryx2_event_builder.specs.declared.event.demand.EventDemand.{EventDemand}
use Rattle.iceoryx2_event_builder.specs.Event.{event_creating, event_opening, event_retried, setting_clauses, setting_rows}
use Rattle.iceoryx2_event_builder.proofs.OwnSettings.{own_settings}
use Rattle.iceoryx2_rounds.proofs.Raised.{raised_above}
use Rattle.iceoryx2_rounds.specs.Builders.{IsLawfulBuilder}
use Rattle.iceoryx2_rounds.specs.Rows.{tested}

pub event_builder : (demand : EventDemand) → IsLawfulBuilder (event_creating demand) (event_opening demand)
event_builder demand = record {
  takes_nodes = λ given now. raised_above demand.settings.max_nodes;
  accepts_own = own_settings demand;
}

-- ---- what a quiet table refuses is not tried again

abbrev Ends : EventOpenError → Type 0
Ends error = event_retried.of_open error ≡ false

settings_end : (demand : EventDemand) (pattern : MessagingPattern) → Errs Ends (setting_clauses demand pattern)
unfolding at_least number_is span_is
settings_end demand (existing.Event s) =
    rows_err Ends (map tested (setting_rows demand.settings demand.marks s)) (refl, (refl, (refl, (refl, (refl, (refl, (refl, (refl, tt))))))))
settings_end demand (existing.PublishSubscribe s) = tt
settings_end demand (existing.RequestResponse s) = tt

requirement_ends : (demand : EventDemand) (required : Requirements) (d : Description) → Errs Ends ((event_opening demand required).requirement d)
requirement_ends demand required d =
    both_err Ends (attribute_clauses opening.IncompatibleAttributes required d.attributes) (setting_clauses demand d.pattern)
    (attributes_err Ends opening.IncompatibleAttributes required d.attributes refl) (settings_end demand d.pattern)

pub event_ends_at_once : (demand : EventDemand) (defined : List Pair) (required : Requirements) → EndsAtOnce event_retried (event_creating demand defined) (event_opening demand required)
event_ends_at_once demand defined required = record {
  not_accepted = λ d error e. unmet_ends Ends ((event_opening demand required).requirement d) error (requirement_ends demand required d) e;
  no_place = refl;
  not_opened = refl;
  opened_without_memory = refl;
  forbidden = λ error e. absurd (cc);
  not_created = refl;
  created_without_memory = refl;
}
