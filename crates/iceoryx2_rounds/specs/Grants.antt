-- What a granted open or create carries.
use Rattle.std.specs.Prelude.{◌≡◌}
use Rattle.iceoryx2_description.specs.Description.{Description}
use Rattle.iceoryx2_rounds.specs.Creates.{description_of}
use Rattle.iceoryx2_rounds.specs.Adjusting.{Accepts}
use Rattle.iceoryx2_rounds.specs.BuilderCalls.{BuilderCall, creating, opening, asking}

module _ {D E C : Type 0} (c : BuilderCall D E C) where
  -- What may be asked in a round: what was asked first, adjusted by each create before.
  pub data IsAsked : D → Type 0 where
    at_first : IsAsked c.asked
    after_create : {asked : D} → IsAsked asked → IsAsked (c.adjusted asked)

  -- A description that the open of a round accepted, or that the create of a round of this node published.
  pub data Carries : Description → Type 0 where
    accepted : {asked : D} {d : Description} → IsAsked asked → d.hash ≡ c.caller.hash
        → Accepts (opening (asking c asked)) d → Carries d
    published : {asked : D} → IsAsked asked → Carries (description_of (creating (asking c asked)) c.caller)
