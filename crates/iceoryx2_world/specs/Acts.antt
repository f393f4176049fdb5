-- What a participant may do at a service.
use Rattle.std.specs.Prelude.{ℕ}
use Rattle.iceoryx2_description.specs.Description.{Description, IsDescription}

pub data Act : Type 0 where
  Read : Act
  Lock : Act
  RemoveSegment : Act
  RemoveDescription : Act
  Make : (max_nodes : ℕ) → Act
  Publish : (d : Description) → Act
  Join : Act
  Leave : Act

-- what is published is a description, within its limits
abbrev pub IsAct : Act → Type 0
IsAct (Publish d) = IsDescription d
IsAct _ = Unit {0}
