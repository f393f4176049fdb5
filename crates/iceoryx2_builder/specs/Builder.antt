-- What a node and its builders hold.
use Rattle.std.specs.Prelude.{ℕ, List}
use Rattle.iceoryx2_description.specs.declared.config.Config.{Config}

pub record NodeFacts : Type 0 where
  pub id : ℕ
  pub config : Config

pub record BuilderFacts : Type 0 where
  pub node : ℕ
  pub config : Config
  pub name : List ℕ
