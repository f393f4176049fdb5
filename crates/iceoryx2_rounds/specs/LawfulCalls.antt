-- What the laws over whole calls ask of a call. Each builder's calls have it.
use Rattle.iceoryx2_rounds.specs.PatternRules.{TakesNodes}
use Rattle.iceoryx2_rounds.specs.OwnSettings.{AcceptsOwn}
use Rattle.iceoryx2_rounds.specs.Adjusting.{OnlyRaises}
use Rattle.iceoryx2_rounds.specs.BuilderCalls.{BuilderCall, creating, opening}
use Rattle.iceoryx2_rounds.specs.EndsAtOnce.{EndsAtOnce}

pub record IsLawfulCall {D E C : Type 0} (c : BuilderCall D E C) : Type 0 where
  -- its create publishes for one node or more,
  pub takes_nodes : TakesNodes (creating c)
  -- only raises minima,
  pub only_raises : OnlyRaises c.meaning c.adjusted
  -- and publishes what an open takes that asks the same and requires no attributes
  pub accepts_own : AcceptsOwn (creating c) (c.meaning c.asked) c.caller
  -- what a table that nobody else uses refuses isn't tried again
  pub ends_at_once : EndsAtOnce c.retried (creating c) (opening c)
