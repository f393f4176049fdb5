-- What holds of each builder, whatever its pattern.
use Rattle.std.specs.Prelude.{List}
use Rattle.iceoryx2_attribute.specs.Attributes.{Pair}
use Rattle.iceoryx2_attribute.specs.Requirements.{Requirements, AreMetBy}
use Rattle.iceoryx2_rounds.specs.PatternRules.{PatternRules, TakesNodes}
use Rattle.iceoryx2_rounds.specs.declared.caller.Caller.{Caller}
use Rattle.iceoryx2_rounds.specs.OwnSettings.{AcceptsOwn}

-- What a builder's create and open mean, with the attributes that they define and require: a create publishes for one
-- node or more, and the builder takes what it created, if the defined pairs meet what it requires of attributes.
pub record IsLawfulBuilder {E C : Type 0}
    (creating : List Pair → PatternRules E C) (opening : Requirements → PatternRules E C) : Type 0 where
  pub takes_nodes : (given : List Pair) → TakesNodes (creating given)
  pub accepts_own : (given : List Pair) (required : Requirements) (caller : Caller) → AreMetBy required given
      → AcceptsOwn (creating given) (opening required) caller
