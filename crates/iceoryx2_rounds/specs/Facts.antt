-- What a builder has once its pattern is chosen.
use Rattle.std.specs.Prelude.{ℕ, List, Result}
use Rattle.iceoryx2_description.specs.declared.description.ServiceHash.{ServiceHash}
use Rattle.iceoryx2_description.specs.declared.time.ClockFault.{ClockFault}
use Rattle.iceoryx2_description.specs.Span.{Span}
use Rattle.iceoryx2_rounds.specs.declared.caller.Caller.{Caller}

pub record ServiceFacts : Type 0 where
  pub node : ℕ
  pub name : List ℕ

-- the node as the caller for the service of this name, whose hash is that of the name behind this prefix
abbrev pub caller_of : (hash_of : ℕ → List ℕ → ServiceHash) → (prefix : ℕ) → ServiceFacts → Result Span ClockFault
    → Caller
caller_of hash_of prefix facts clock = record {
  node = facts.node;
  hash = hash_of prefix facts.name;
  name = facts.name;
  clock = clock;
}
