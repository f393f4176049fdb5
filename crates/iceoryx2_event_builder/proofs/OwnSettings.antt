-- What a builder's adjusted settings publish is accepted by the same builder.
use Rattle.std.proofs.Common.{◌≡◌, true, List, Option, Some, None, Ok, refl, rules}
use Rattle.std.specs.Option.{option_map}
use Rattle.iceoryx2_description.specs.Span.{Span}
use Rattle.iceoryx2_description.specs.declared.event.Deadline.{Deadline}
use Rattle.iceoryx2_rounds.specs.Verdict.{verdict, at_least, number_is, span_is, is_same_span}
use Rattle.iceoryx2_rounds.specs.declared.caller.Caller.{Caller}
use Rattle.iceoryx2_rounds.specs.Creates.{description_of}
use Rattle.iceoryx2_rounds.proofs.MetRows.{not_less, same_number, same_choice}
use Rattle.iceoryx2_rounds.proofs.Rows.{accepted}
use Rattle.iceoryx2_rounds.proofs.Raised.{not_below}
use Rattle.iceoryx2_event_builder.specs.declared.event.demand.EventDemand.{EventDemand}
use Rattle.iceoryx2_attribute.specs.Attributes.{Pair}
use Rattle.iceoryx2_attribute.specs.Requirements.{Requirements, AreMetBy}
use Rattle.iceoryx2_event_builder.specs.Event.{event_meaning, event_adjusted, event_creating, event_opening, created_deadline, deadline_value}
use Rattle.iceoryx2_rounds.specs.OwnSettings.{AcceptsOwn}
use Rattle.iceoryx2_rounds.proofs.RetriedAttributes.{met_with_attributes}

-- a create sets the time of a deadline, and not its length
same_deadline : (now : Span) (deadline : Option Deadline)
    → is_same_span (deadline_value (option_map (created_deadline now) deadline)) (deadline_value deadline) ≡ true
same_deadline now None = refl
same_deadline now (Some d) = rw (same_number d.value.seconds) (same_number d.value.nanoseconds)

meets : (demand : EventDemand) (caller : Caller)
    → verdict ((event_meaning demand).requirement (description_of (event_meaning (event_adjusted demand)) caller)) ≡ Ok tt
unfolding at_least number_is span_is
meets demand caller = accepted _ (search (rules, not_below, not_less, same_choice, same_deadline))

pub own_settings : (demand : EventDemand) (given : List Pair) (required : Requirements) (caller : Caller) → AreMetBy required given
    → AcceptsOwn (event_creating demand given) (event_opening demand required) caller
own_settings demand given required caller met = record {
  fits = λ node. refl;
  accepted = λ node. let own = record caller { node = node } in
      met_with_attributes (event_meaning demand) required (description_of (event_creating demand given) own) met (meets demand own);
}
