-- A builder of request-response is a builder like each other one.
use Rattle.std.proofs.Common.{◌≡◌, false, List, Ok, refl, rules}
use Rattle.std.specs.Prelude.{map}
use Rattle.iceoryx2_types.specs.Types.{Message}
use Rattle.iceoryx2_attribute.specs.Attributes.{Pair}
use Rattle.iceoryx2_attribute.specs.Requirements.{Requirements, AreMetBy}
use Rattle.iceoryx2_description.specs.declared.description.MessagingPattern.{MessagingPattern}
use Rattle.iceoryx2_description.specs.declared.description.MessagingPattern.TheVariants as existing
use Rattle.iceoryx2_rounds.specs.Verdict.{at_least, flag_is, verdict}
use Rattle.iceoryx2_rounds.proofs.MetRows.{same_flag}
use Rattle.iceoryx2_rounds.proofs.Rows.{accepted}
use Rattle.iceoryx2_rounds.specs.declared.caller.Caller.{Caller}
use Rattle.iceoryx2_rounds.specs.Creates.{description_of}
use Rattle.iceoryx2_rounds.specs.OwnSettings.{AcceptsOwn}
use Rattle.iceoryx2_description.specs.Description.{Description}
use Rattle.iceoryx2_rounds.specs.OwnAttributes.{attribute_clauses}
use Rattle.iceoryx2_rounds.specs.EndsAtOnce.{EndsAtOnce}
use Rattle.iceoryx2_rounds.proofs.RetriedAttributes.{met_with_attributes}
use Rattle.iceoryx2_rounds.proofs.Ends.{Errs, attributes_err, both_err, rows_err, unmet_ends}
use Rattle.iceoryx2_errors.specs.declared.error.request_response.RequestResponseOpenError.{RequestResponseOpenError}
use Rattle.iceoryx2_errors.specs.declared.error.request_response.RequestResponseOpenError.TheVariants as opening
use Rattle.iceoryx2_rounds.specs.Builders.{IsLawfulBuilder}
use Rattle.iceoryx2_rounds.specs.Rows.{tested}
use Rattle.iceoryx2_request_response_builder.specs.RequestResponse.{request_response_retried, setting_clauses, setting_rows}
use Rattle.iceoryx2_rounds.proofs.Misfits.{fits_itself}
use Rattle.iceoryx2_rounds.proofs.Raised.{not_below, raised_above}
use Rattle.iceoryx2_request_response_builder.specs.declared.request_response.demand.RequestResponseDemand.{RequestResponseDemand}
use Rattle.iceoryx2_request_response_builder.specs.RequestResponse.{request_response_meaning, request_response_adjusted, request_response_creating, request_response_opening}

-- ---- it takes what it created

meets : (demand : RequestResponseDemand) (request response : Message) (caller : Caller)
    → verdict ((request_response_meaning demand request response).requirement
    (description_of (request_response_meaning (request_response_adjusted demand) request response) caller)) ≡ Ok tt
unfolding flag_is at_least
meets demand request response caller = accepted _ (search (rules, not_below, same_flag))

own_settings : (demand : RequestResponseDemand) (request response : Message) (given : List Pair) (required : Requirements) (caller : Caller)
    → AreMetBy required given
    → AcceptsOwn (request_response_creating demand request response given) (request_response_opening demand request response required) caller
own_settings demand request response given required caller met = record {
  fits = λ node. rw (fits_itself request, fits_itself response) refl;
  accepted = λ node. let own = record caller { node = node } in
      met_with_attributes (request_response_meaning demand request response) required
      (description_of (request_response_creating demand request response given) own) met (meets demand request response own);
}

pub request_response_builder : (demand : RequestResponseDemand) (request response : Message)
    → IsLawfulBuilder (request_response_creating demand request response) (request_response_opening demand request response)
request_response_builder demand request response = record {
  takes_nodes = λ given now. raised_above demand.settings.max_nodes;
  accepts_own = own_settings demand request response;
}

-- ---- what a quiet table refuses is not tried again

abbrev Ends : RequestResponseOpenError → Type 0
Ends error = request_response_retried.of_open error ≡ false

settings_end : (demand : RequestResponseDemand) (pattern : MessagingPattern) → Errs Ends (setting_clauses demand pattern)
unfolding at_least flag_is
settings_end demand (existing.Event s) = tt
settings_end demand (existing.PublishSubscribe s) = tt
settings_end demand (existing.RequestResponse s) =
    rows_err Ends (map tested (setting_rows demand.settings demand.marks s)) (refl, (refl, (refl, (refl, (refl, (refl, (refl, (refl, (refl, (refl, tt))))))))))

requirement_ends : (demand : RequestResponseDemand) (request response : Message) (required : Requirements) (d : Description)
    → Errs Ends ((request_response_opening demand request response required).requirement d)
requirement_ends demand request response required d =
    both_err Ends (attribute_clauses opening.IncompatibleAttributes required d.attributes) (setting_clauses demand d.pattern)
    (attributes_err Ends opening.IncompatibleAttributes required d.attributes refl) (settings_end demand d.pattern)

pub request_response_ends_at_once : (demand : RequestResponseDemand) (request response : Message) (defined : List Pair) (required : Requirements)
    → EndsAtOnce request_response_retried (request_response_creating demand request response defined) (request_response_opening demand request response required)
request_response_ends_at_once demand request response defined required = record {
  not_accepted = λ d error e. unmet_ends Ends ((request_response_opening demand request response required).requirement d) error (requirement_ends demand request response required d) e;
  no_place = refl;
  not_opened = refl;
  opened_without_memory = refl;
  forbidden = λ error e. absurd (cc);
  not_created = refl;
  created_without_memory = refl;
}
