-- A builder that accepts what it creates opens what its calls have given.
use Rattle.std.proofs.Common.{◌≡◌, Some, Result, ◌⊎◌, inl, inr, Bool, true, false, sym, ap, subst, ◌∙◌}
use Rattle.iceoryx2_description.specs.Description.{Description}
use Rattle.iceoryx2_access.specs.Registered.{Registered}
use Rattle.iceoryx2_rounds.specs.OwnAttributes.{requiring}
use Rattle.iceoryx2_rounds.specs.Verdict.{verdict}
use Rattle.iceoryx2_rounds.specs.OwnSettings.{AcceptsOwn}
use Rattle.iceoryx2_rounds.specs.Adjusting.{Accepts, OnlyRaises}
use Rattle.iceoryx2_rounds.specs.LawfulCalls.{IsLawfulCall}
use Rattle.iceoryx2_rounds.proofs.RetriedAttributes.{accepts_with_attributes, accepts_without_attributes}
use Rattle.iceoryx2_rounds.specs.BuilderCalls.{BuilderCall, Way, ToCreate, ToOpen, ToOpenOrCreate, creating}
use Rattle.iceoryx2_call_laws.specs.AnyCalls.{Meets, IsAsPublished, MayCarryBy}
use Rattle.iceoryx2_call_laws.specs.OpensAgain.{opening_again, OpensOwnSettings, OpensAgain}
use Rattle.iceoryx2_call_laws.specs.QuietLaws.{CarriesAsAsked}
use Rattle.iceoryx2_call_laws.specs.Quiet.{Quiet, service_at}
use Rattle.iceoryx2_call_laws.specs.QuietPrepared.{PreparesFirstIf, prepared}
use Rattle.iceoryx2_call_laws.proofs.quiet.After.{accepted}
use Rattle.iceoryx2_call_laws.proofs.quiet.Tickets.{service_of}
use Rattle.iceoryx2_call_laws.proofs.quiet.Ways.{opening_follows}

module _ {D E C : Type 0} (c : BuilderCall D E C) (own : AcceptsOwn (creating c) (c.meaning c.asked) c.caller) (raises : OnlyRaises c.meaning c.adjusted) where
  -- what it publishes it accepts,
  holds_accepted : (d : Description) → IsAsPublished c d → Accepts (c.meaning c.asked) d
  holds_accepted d is = record {
    fits = ap (λ d. (c.meaning c.asked).misfit d) is ∙ own.fits c.caller.node;
    meets = ap (λ d. verdict ((c.meaning c.asked).requirement d)) is ∙ own.accepted c.caller.node;
  }

  -- and what it opened with required attributes it accepts without
  meets_accepted : (d : Description) → Meets c d → Accepts (c.meaning c.asked) d
  meets_accepted d is = accepts_without_attributes (c.meaning c.asked) c.required d is.accepted

  either_accepted : (d : Description) → Meets c d ⊎ IsAsPublished c d → Accepts (c.meaning c.asked) d
  either_accepted d (inl meets) = meets_accepted d meets
  either_accepted d (inr holds) = holds_accepted d holds

  -- and so what any of its calls gives
  given_accepted : (way : Way) (d : Description) → MayCarryBy c way d → Accepts (c.meaning c.asked) d
  given_accepted ToCreate d holds = holds_accepted d holds
  given_accepted ToOpen d meets = meets_accepted d meets
  given_accepted ToOpenOrCreate d carries = either_accepted d (carries raises)

  pub opens_own : OpensOwnSettings c
  opens_own required node q p f w answer is s met room opened =
      let other = requiring required (c.meaning c.asked) in
      let has = service_of w q f s is.stands in
      let there : service_at q c.caller.hash ≡ Some has.service = ap (λ h. service_at q h) (sym is.hash) ∙ has.there in
      let taken = accepts_with_attributes (c.meaning c.asked) required f.description met (given_accepted c.way f.description is.carries) in
      accepted other node c.caller.hash q p answer (record {
        service = has.service;
        there = there;
        accepted = record {
          fits = ap (λ d. other.misfit d) has.description ∙ taken.fits;
          meets = ap (λ d. verdict (other.requirement d)) has.description ∙ taken.meets;
        };
        place = room.place has.service there;
        number = room.number;
      }) opened

-- a call that doesn't prepare is one that may
may_prepare : {E : Type 0} (b : Bool) {no_memory : E} {q : Quiet} {Calls : Result Registered E → Quiet → Type 0} {answer : Result Registered E} {p : Quiet}
    → PreparesFirstIf b no_memory q Calls answer p → PreparesFirstIf true no_memory q Calls answer p
may_prepare true is = is
may_prepare false is = prepared is

-- the words of such an open
module _ {D E C : Type 0} (c : BuilderCall D E C) (lawful : IsLawfulCall c) where
  pub opens_again : OpensAgain c
  opens_again required node f q w v word answer is met shows old room is_word run =
      let other = opening_again c node required in
      let made = opening_follows other w v q word answer (record { shows = shows; agrees = old; run = run }) is_word in
      opens_own c lawful.accepts_own lawful.only_raises required node q made.state f w answer is shows met room (may_prepare other.prepares made.call)

-- where a factory is open as its call asked, each of its service carries the same
pub stands_as_asked : {D E C : Type 0} (c : BuilderCall D E C) → CarriesAsAsked c
stands_as_asked c w f g is there same = record {
  stands = there;
  hash = same ∙ is.hash;
  carries = subst (MayCarryBy c c.way) (sym (is.is_open.one_description g there same)) is.carries;
}
