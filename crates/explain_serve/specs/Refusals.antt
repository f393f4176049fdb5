-- What is printed of a refusal.
use Rattle.std.specs.Prelude.{ℕ, List, ◌++◌, codes}
use Rattle.iceoryx2_errors.specs.declared.error.events.EventOpenOrCreateError.TheVariants as event_either
use Rattle.iceoryx2_errors.specs.declared.error.publish_subscribe.PublishSubscribeOpenOrCreateError.TheVariants as subscribe_either
use Rattle.iceoryx2_errors.specs.declared.error.request_response.RequestResponseOpenOrCreateError.TheVariants as request_either
use Rattle.iceoryx2_errors.specs.declared.refusal.Refusal.{Refusal}
use Rattle.iceoryx2_errors.specs.declared.refusal.Refusal.TheVariants as refusal
use Rattle.iceoryx2_errors.specs.Reasons.{reason_of}
use Rattle.explain_serve.specs.declared.refusals.Part.{Part}
use Rattle.explain_serve.specs.declared.refusals.Part.TheVariants as part
use Rattle.explain_serve.specs.declared.refusals.Pattern.{Pattern}
use Rattle.explain_serve.specs.declared.refusals.Pattern.TheVariants as pattern
use Rattle.explain_serve.specs.Rows.{Texts, row_of}

-- the part of a call that refuses: of an open or create that of a round
abbrev pub part_of : Refusal → Part
part_of (refusal.EventOpen error) = part.Open
part_of (refusal.PublishSubscribeOpen error) = part.Open
part_of (refusal.RequestResponseOpen error) = part.Open
part_of (refusal.EventCreate error) = part.Create
part_of (refusal.PublishSubscribeCreate error) = part.Create
part_of (refusal.RequestResponseCreate error) = part.Create
part_of (refusal.EventOpenOrCreate (event_either.EventOpenError error)) = part.RoundOpen
part_of (refusal.EventOpenOrCreate (event_either.EventCreateError error)) = part.RoundCreate
part_of (refusal.EventOpenOrCreate event_either.SystemInFlux) = part.Rounds
part_of (refusal.PublishSubscribeOpenOrCreate (subscribe_either.PublishSubscribeOpenError error)) = part.RoundOpen
part_of (refusal.PublishSubscribeOpenOrCreate (subscribe_either.PublishSubscribeCreateError error)) = part.RoundCreate
part_of (refusal.PublishSubscribeOpenOrCreate subscribe_either.SystemInFlux) = part.Rounds
part_of (refusal.RequestResponseOpenOrCreate (request_either.RequestResponseOpenError error)) = part.RoundOpen
part_of (refusal.RequestResponseOpenOrCreate (request_either.RequestResponseCreateError error)) = part.RoundCreate
part_of (refusal.RequestResponseOpenOrCreate request_either.SystemInFlux) = part.Rounds

abbrev pub pattern_of : Refusal → Pattern
pattern_of (refusal.EventOpen error) = pattern.Event
pattern_of (refusal.EventCreate error) = pattern.Event
pattern_of (refusal.EventOpenOrCreate error) = pattern.Event
pattern_of (refusal.PublishSubscribeOpen error) = pattern.PublishSubscribe
pattern_of (refusal.PublishSubscribeCreate error) = pattern.PublishSubscribe
pattern_of (refusal.PublishSubscribeOpenOrCreate error) = pattern.PublishSubscribe
pattern_of (refusal.RequestResponseOpen error) = pattern.RequestResponse
pattern_of (refusal.RequestResponseCreate error) = pattern.RequestResponse
pattern_of (refusal.RequestResponseOpenOrCreate error) = pattern.RequestResponse

-- its row: that of its reason there
abbrev pub refusal_row : Refusal → Texts
refusal_row r = row_of (reason_of r) (part_of r) (pattern_of r)

-- A line for each text of a row.
abbrev pub row_lines : Texts → List ℕ
row_lines row =
    codes "  comes when: " ++ (row.comes_when ++ (codes "\n  what can be done: "
    ++ (row.what_can_be_done ++ codes "\n")))
