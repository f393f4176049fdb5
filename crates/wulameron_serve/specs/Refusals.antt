-- What is told of a call that is refused: a line, and what the call required beside what the service offers.
use Rattle.std.specs.Prelude.{◌≡◌, ℕ, Bool, true, false, List, [], ◌++◌, Option, Some, None, if◌then◌else◌, codes}
use Rattle.iceoryx2_description.specs.Description.{Description}
use Rattle.iceoryx2_builder.specs.declared.command.Call.{Call}
use Rattle.iceoryx2_errors.specs.Reasons.{reason_of}
use Rattle.iceoryx2_errors.specs.Texts.{text_of}
use Rattle.iceoryx2_errors.specs.declared.error.events.EventOpenOrCreateError.{EventOpenOrCreateError}
use Rattle.iceoryx2_errors.specs.declared.error.events.EventOpenOrCreateError.TheVariants as event_either
use Rattle.iceoryx2_errors.specs.declared.refusal.Reason.{Reason}
use Rattle.iceoryx2_errors.specs.declared.refusal.Reason.TheVariants as reason
use Rattle.iceoryx2_errors.specs.declared.refusal.Refusal.{Refusal}
use Rattle.iceoryx2_errors.specs.declared.refusal.Refusal.TheVariants as refusal
use Rattle.iceoryx2_world.specs.Listing.{Lists}
use Rattle.iceoryx2_world.specs.World.{World}
use Rattle.iceoryx2_world.specs.declared.listing.Entry.{Entry}
use Rattle.explain_serve.specs.Offers.{offer_lines}
use Rattle.explain_serve.specs.Refusals.{refusal_row}
use Rattle.explain_serve.specs.Standing.{IsFound}
use Rattle.wulameron_serve.specs.declared.refused.Offer.{Offer}
use Rattle.wulameron_serve.specs.declared.remedy.TheConstants as remedy
use Rattle.wulameron_place.specs.Troubles.{trouble_line}

-- ---- what can be done

-- an open of its own refused it, and no open or create
abbrev pub is_open : Refusal → Bool
is_open (refusal.EventOpen error) = true
is_open (refusal.PublishSubscribeOpen error) = true
is_open (refusal.RequestResponseOpen error) = true
is_open _ = false

abbrev pub is_of_create : EventOpenOrCreateError → Bool
is_of_create (event_either.EventCreateError error) = true
is_of_create _ = false

-- the create of an event refused it, which asks the clock for a deadline
abbrev pub asks_clock : Refusal → Bool
asks_clock (refusal.EventCreate error) = true
asks_clock (refusal.EventOpenOrCreate error) = is_of_create error
asks_clock _ = false

-- one of two constants
abbrev either : Bool → (first second : record { now : List ℕ }) → List ℕ
either b first second = if b then first.now else second.now

-- in terms of a call, where the row of the refusal names calls of the library or a storage of it; else that of the row
abbrev pub remedy_at : Reason → Refusal → List ℕ
remedy_at reason.IncompatibleAttributes r = either (is_open r) remedy.REQUIRE_LESS remedy.DEFINE_KEYS
remedy_at reason.InternalFailure r = either (asks_clock r) remedy.GIVE_TIME remedy.RETRY_OR_NEW_LOG
remedy_at reason.IncompatibleDeadline r = either (is_open r) remedy.MATCH_DEADLINE remedy.MATCH_DEADLINE_OR_DEFAULT
remedy_at reason.IncompatibleNotifierCreatedEvent r =
    either (is_open r) remedy.MATCH_CREATED_EVENT remedy.MATCH_CREATED_EVENT_OR_DEFAULT
remedy_at reason.IncompatibleNotifierDroppedEvent r =
    either (is_open r) remedy.MATCH_DROPPED_EVENT remedy.MATCH_DROPPED_EVENT_OR_DEFAULT
remedy_at reason.IncompatibleNotifierDeadEvent r =
    either (is_open r) remedy.MATCH_DEAD_EVENT remedy.MATCH_DEAD_EVENT_OR_DEFAULT
remedy_at reason.IncompatibleTypes r = remedy.MATCH_TYPES.now
remedy_at reason.IncompatibleRequestType r = remedy.MATCH_REQUEST.now
remedy_at reason.IncompatibleResponseType r = remedy.MATCH_RESPONSE.now
remedy_at _ r = (refusal_row r).what_can_be_done

abbrev pub remedy_of : Refusal → List ℕ
remedy_of r = remedy_at (reason_of r) r

-- ---- the service that a call found

-- It is the description of the service of the call's name and pattern that is published in this world, or none is.
pub record IsFoundIn (w : World) (call : Call) (found : Option Description) : Type 0 where
  pub entries : List Entry
  pub lists : Lists w entries
  pub is_found : IsFound call entries found

-- The call beside this service, or there is none.
abbrev pub IsOfferIn : World → Call → Option Offer → Type 0
IsOfferIn w call None = IsFoundIn w call None
IsOfferIn w call (Some offer) = (offer.call ≡ call) × IsFoundIn w call (Some offer.existing)

-- ---- what is written

-- the error, and what can be done
abbrev pub refusal_text : Refusal → List ℕ
refusal_text r = text_of r ++ (codes "; " ++ remedy_of r)

-- by the log of this path
abbrev pub refusal_line : (path : List ℕ) → Refusal → List ℕ
refusal_line path r = trouble_line path (refusal_text r)

-- Behind it stands what the call required and what the service offers, where one was found.
abbrev pub offered_lines : Refusal → Option Offer → List ℕ
offered_lines r None = []
offered_lines r (Some offer) = offer_lines offer.call r offer.existing
