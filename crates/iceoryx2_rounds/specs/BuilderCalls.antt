-- One call of a builder, whatever its pattern and whichever of its three calls it is.
use Rattle.std.specs.Prelude.{Bool, false, List}
use Rattle.iceoryx2_attribute.specs.Attributes.{Pair}
use Rattle.iceoryx2_attribute.specs.Requirements.{Requirements}
use Rattle.iceoryx2_rounds.specs.PatternRules.{PatternRules}
use Rattle.iceoryx2_rounds.specs.OwnAttributes.{defining, requiring}
use Rattle.iceoryx2_rounds.specs.declared.caller.Caller.{Caller}
use Rattle.iceoryx2_rounds.specs.Counts.{Limits, create_limits, open_limits}
use Rattle.iceoryx2_rounds.specs.Retried.{Retried}
use Rattle.iceoryx2_rounds.specs.declared.open_or_create.OpenOrCreateRefusal.{OpenOrCreateRefusal}

-- which of them
pub data Way : Type 0 where
  ToCreate : Way
  ToOpen : Way
  ToOpenOrCreate : Way

-- what its errors are
abbrev pub ErrorBy : (E C : Type 0) → Way → Type 0
ErrorBy E C ToCreate = C
ErrorBy E C ToOpen = E
ErrorBy E C ToOpenOrCreate = OpenOrCreateRefusal E C

pub record BuilderCall (D E C : Type 0) : Type 0 where
  pub way : Way
  -- who calls, for which service, and when
  pub caller : Caller
  -- what a builder asks has a meaning, and a create adjusts it; some refusals lead to another round
  pub meaning : D → PatternRules E C
  pub adjusted : D → D
  pub retried : Retried E C
  pub asked : D
  -- the pairs that a create defines, and the pairs and keys that an open requires
  pub defined : List Pair
  pub required : Requirements
  -- whether the types of messages are prepared before the first access
  pub prepares : Bool

module _ {D E C : Type 0} (c : BuilderCall D E C) where
  -- what a create publishes by: zeros are raised, and the pairs defined;
  abbrev pub creating : PatternRules E C
  creating = defining c.defined (c.meaning (c.adjusted c.asked))

  -- what an open requires: the pairs and keys, and then the marked settings;
  abbrev pub opening : PatternRules E C
  opening = requiring c.required (c.meaning c.asked)

  -- the same call where something else is asked,
  abbrev pub asking : D → BuilderCall D E C
  asking asked = record c { asked = asked }

  -- and as what the rounds of an open or create are said by, whose types are prepared
  abbrev pub rounds_of : BuilderCall D E C
  rounds_of = record c { way = ToOpenOrCreate; prepares = false }

-- how many accesses an open or create has at most, and how many looks, openings, makings and removals of a segment,
abbrev pub open_or_create_limits : Limits
open_or_create_limits = record { accesses = 264; looks = 78; openings = 36; makings = 36; removals = 36 }

-- and each of the three
abbrev pub limits_of : Way → Limits
limits_of ToCreate = create_limits
limits_of ToOpen = open_limits
limits_of ToOpenOrCreate = open_or_create_limits
