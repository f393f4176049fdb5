-- Where a create only raises minima, a granted open or create carries what was asked first.
use Rattle.std.proofs.Common.{◌≡◌, refl, sym, ◌∙◌, subst}
use Rattle.iceoryx2_description.specs.Description.{Description}
use Rattle.iceoryx2_rounds.specs.Creates.{description_of}
use Rattle.iceoryx2_rounds.specs.OwnAttributes.{defining}
use Rattle.iceoryx2_rounds.specs.BuilderCalls.{BuilderCall, opening, asking}
use Rattle.iceoryx2_rounds.specs.Grants.{IsAsked, at_first, after_create, Carries, accepted, published}
use Rattle.iceoryx2_rounds.specs.Adjusting.{Accepts, OnlyRaises, MeetsOrHolds, meets, holds}

module _ {D E C : Type 0} {c : BuilderCall D E C} where
  -- what a round accepts was accepted by what was asked first
  first_accepts : {asked : D} (d : Description) → OnlyRaises c.meaning c.adjusted → IsAsked c asked → Accepts (opening (asking c asked)) d → Accepts (opening c) d
  first_accepts d raises at_first a = a
  first_accepts d raises (after_create {asked = asked} is) a = first_accepts d raises is (raises.accepts asked c.required d a)

  -- each create adjusts to the same
  adjusted_once : {asked : D} → OnlyRaises c.meaning c.adjusted → IsAsked c asked → c.adjusted asked ≡ c.adjusted c.asked
  adjusted_once raises at_first = refl
  adjusted_once raises (after_create {asked = asked} is) = raises.once asked ∙ adjusted_once raises is

  pub carries_once : {d : Description} → OnlyRaises c.meaning c.adjusted → Carries c d → MeetsOrHolds c d
  carries_once {d} raises (accepted is same a) = meets same (first_accepts d raises is a)
  carries_once raises (published {asked = asked} is) =
      let P : D → Type 0 = λ x. MeetsOrHolds c (description_of (defining c.defined (c.meaning x)) c.caller) in
      subst P (sym (adjusted_once raises is)) holds
