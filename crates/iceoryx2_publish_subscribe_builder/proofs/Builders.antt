-- A builder of publish-subscribe is a builder like each other one.
use Rattle.std.proofs.Common.{◌≡◌, Bool, false, true, cond, List, Some, None, Ok, refl, sym, ap, rules}
use Rattle.std.specs.Prelude.{map}
use Rattle.iceoryx2_types.specs.Types.{Message}
use Rattle.iceoryx2_attribute.specs.Attributes.{Pair}
use Rattle.iceoryx2_attribute.specs.Requirements.{Requirements, AreMetBy}
use Rattle.iceoryx2_description.specs.declared.description.MessagingPattern.{MessagingPattern}
use Rattle.iceoryx2_description.specs.declared.description.MessagingPattern.TheVariants as existing
use Rattle.iceoryx2_errors.specs.declared.error.publish_subscribe.PublishSubscribeCreateError.TheVariants as creating
use Rattle.iceoryx2_rounds.specs.Verdict.{at_least, flag_is, verdict}
use Rattle.iceoryx2_rounds.proofs.MetRows.{not_less, same_flag}
use Rattle.iceoryx2_rounds.proofs.Rows.{accepted}
use Rattle.iceoryx2_rounds.specs.declared.caller.Caller.{Caller}
use Rattle.iceoryx2_rounds.specs.Creates.{description_of}
use Rattle.iceoryx2_rounds.specs.OwnSettings.{AcceptsOwn}
use Rattle.iceoryx2_description.specs.Description.{Description}
use Rattle.iceoryx2_rounds.specs.OwnAttributes.{attribute_clauses}
use Rattle.iceoryx2_rounds.specs.EndsAtOnce.{EndsAtOnce}
use Rattle.iceoryx2_rounds.proofs.RetriedAttributes.{met_with_attributes}
use Rattle.iceoryx2_rounds.proofs.Ends.{Errs, attributes_err, both_err, rows_err, unmet_ends}
use Rattle.iceoryx2_errors.specs.declared.error.publish_subscribe.PublishSubscribeOpenError.{PublishSubscribeOpenError}
use Rattle.iceoryx2_errors.specs.declared.error.publish_subscribe.PublishSubscribeOpenError.TheVariants as opening
use Rattle.iceoryx2_errors.specs.declared.error.publish_subscribe.PublishSubscribeCreateError.{PublishSubscribeCreateError}
use Rattle.iceoryx2_rounds.specs.Builders.{IsLawfulBuilder}
use Rattle.iceoryx2_rounds.specs.Rows.{tested}
use Rattle.iceoryx2_publish_subscribe_builder.specs.PublishSubscribe.{publish_subscribe_retried, setting_clauses, setting_rows}
use Rattle.iceoryx2_rounds.proofs.Misfits.{fits_itself}
use Rattle.iceoryx2_rounds.proofs.Raised.{not_below, raised_above}
use Rattle.iceoryx2_publish_subscribe_builder.specs.declared.publish_subscribe.demand.PublishSubscribeDemand.{PublishSubscribeDemand}
use Rattle.iceoryx2_publish_subscribe_builder.specs.PublishSubscribe.{publish_subscribe_meaning, publish_subscribe_adjusted, publish_subscribe_creating, publish_subscribe_opening}

-- ---- it takes what it created

meets : (demand : PublishSubscribeDemand) (message : Message) (caller : Caller)
    → verdict ((publish_subscribe_meaning demand message).requirement (description_of (publish_subscribe_meaning (publish_subscribe_adjusted demand) message) caller)) ≡ Ok tt
unfolding at_least flag_is
meets demand message caller = accepted _ (search (rules, not_below, not_less, same_flag))

own_settings : (demand : PublishSubscribeDemand) (message : Message) (given : List Pair) (required : Requirements) (caller : Caller)
    → AreMetBy required given
    → AcceptsOwn (publish_subscribe_creating demand message given) (publish_subscribe_opening demand message required) caller
own_settings demand message given required caller met = record {
  fits = λ node. ap (λ b. cond b None (Some opening.IncompatibleTypes)) (fits_itself message);
  accepted = λ node. let own = record caller { node = node } in
      met_with_attributes (publish_subscribe_meaning demand message) required
      (description_of (publish_subscribe_creating demand message given) own) met (meets demand message own);
}

pub publish_subscribe_builder : (demand : PublishSubscribeDemand) (message : Message)
    → IsLawfulBuilder (publish_subscribe_creating demand message) (publish_subscribe_opening demand message)
publish_subscribe_builder demand message = record {
  takes_nodes = λ given now. raised_above demand.settings.max_nodes;
  accepts_own = own_settings demand message;
}

-- ---- what a quiet table refuses is not tried again

abbrev Ends : PublishSubscribeOpenError → Type 0
Ends error = publish_subscribe_retried.of_open error ≡ false

settings_end : (demand : PublishSubscribeDemand) (pattern : MessagingPattern) → Errs Ends (setting_clauses demand pattern)
unfolding at_least flag_is
settings_end demand (existing.Event s) = tt
settings_end demand (existing.PublishSubscribe s) =
    rows_err Ends (map tested (setting_rows demand.settings demand.marks s)) (refl, (refl, (refl, (refl, (refl, (refl, (refl, tt)))))))
settings_end demand (existing.RequestResponse s) = tt

requirement_ends : (demand : PublishSubscribeDemand) (message : Message) (required : Requirements) (d : Description)
    → Errs Ends ((publish_subscribe_opening demand message required).requirement d)
requirement_ends demand message required d =
    both_err Ends (attribute_clauses opening.IncompatibleAttributes required d.attributes) (setting_clauses demand d.pattern)
    (attributes_err Ends opening.IncompatibleAttributes required d.attributes refl) (settings_end demand d.pattern)

history_ends : (error : PublishSubscribeCreateError) (lacks : Bool) → cond lacks (Some creating.SubscriberBufferMustBeLargerThanHistorySize) None ≡ Some error → publish_subscribe_retried.of_create error ≡ false
history_ends error true e = let is : creating.SubscriberBufferMustBeLargerThanHistorySize ≡ error = cc in ap publish_subscribe_retried.of_create (sym is)
history_ends error false e = absurd (cc)

pub publish_subscribe_ends_at_once : (demand : PublishSubscribeDemand) (message : Message) (defined : List Pair) (required : Requirements)
    → EndsAtOnce publish_subscribe_retried (publish_subscribe_creating demand message defined) (publish_subscribe_opening demand message required)
publish_subscribe_ends_at_once demand message defined required = record {
  not_accepted = λ d error e. unmet_ends Ends ((publish_subscribe_opening demand message required).requirement d) error (requirement_ends demand message required d) e;
  no_place = refl;
  not_opened = refl;
  opened_without_memory = refl;
  forbidden = λ error e. history_ends error _ e;
  not_created = refl;
  created_without_memory = refl;
}
