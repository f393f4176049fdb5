-- When a description meets what was asked or holds what was adjusted, and builders whose create only raises minima:
-- what it makes of what was asked asks for no less, and nothing is adjusted twice.
use Rattle.std.specs.Prelude.{◌≡◌, Ok, None}
use Rattle.iceoryx2_attribute.specs.Requirements.{Requirements}
use Rattle.iceoryx2_description.specs.Description.{Description}
use Rattle.iceoryx2_rounds.specs.PatternRules.{PatternRules}
use Rattle.iceoryx2_rounds.specs.OwnAttributes.{requiring}
use Rattle.iceoryx2_rounds.specs.Verdict.{verdict}
use Rattle.iceoryx2_rounds.specs.Creates.{description_of}
use Rattle.iceoryx2_rounds.specs.BuilderCalls.{BuilderCall, creating, opening}

-- what an open takes: the service fits, and meets each of its requirements
pub record Accepts {E C : Type 0} (m : PatternRules E C) (d : Description) : Type 0 where
  pub fits : m.misfit d ≡ None
  pub meets : verdict (m.requirement d) ≡ Ok tt

-- What is accepted with the adjusted settings is accepted with those that were asked, whatever attributes are
-- required; and adjusting twice is adjusting once.
pub record OnlyRaises {D E C : Type 0} (meaning : D → PatternRules E C) (adjusted : D → D) : Type 0 where
  pub accepts : (asked : D) (required : Requirements) (d : Description)
      → Accepts (requiring required (meaning (adjusted asked))) d → Accepts (requiring required (meaning asked)) d
  pub once : (asked : D) → adjusted (adjusted asked) ≡ adjusted asked

-- A description of the call's service that what was asked first accepts, or that a create of this node published that
-- adjusted that once.
module _ {D E C : Type 0} (c : BuilderCall D E C) where
  pub data MeetsOrHolds : Description → Type 0 where
    meets : {d : Description} → d.hash ≡ c.caller.hash → Accepts (opening c) d → MeetsOrHolds d
    holds : MeetsOrHolds (description_of (creating c) c.caller)
