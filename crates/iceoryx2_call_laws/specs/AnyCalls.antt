-- What a call may carry, and how short it is, whatever its pattern and whichever of a builder's three calls it is.
use Rattle.std.specs.Prelude.{◌≡◌, ◌⊎◌, List}
use Rattle.iceoryx2_description.specs.Description.{Description}
use Rattle.iceoryx2_access.specs.Letter.{Letter}
use Rattle.iceoryx2_rounds.specs.Creates.{description_of}
use Rattle.iceoryx2_rounds.specs.Counts.{IsWithin}
use Rattle.iceoryx2_rounds.specs.Adjusting.{Accepts, OnlyRaises}
use Rattle.iceoryx2_rounds.specs.BuilderCalls.{BuilderCall, Way, ToCreate, ToOpen, ToOpenOrCreate}
use Rattle.iceoryx2_rounds.specs.BuilderCalls.{creating, opening, limits_of}

module _ {D E C : Type 0} (c : BuilderCall D E C) where
  -- The description of the call's hash that meets its requirement,
  pub record Meets (d : Description) : Type 0 where
    pub hash : d.hash ≡ c.caller.hash
    pub accepted : Accepts (opening c) d

  -- or the one that it published, with its adjusted settings and its attributes, and its node as the creator.
  abbrev pub IsAsPublished : Description → Type 0
  IsAsPublished d = d ≡ description_of (creating c) c.caller

  -- Of an open or create it is one of both if its create only raises minima, as each builder's does.
  abbrev pub MayCarryBy : Way → Description → Type 0
  MayCarryBy ToCreate d = IsAsPublished d
  MayCarryBy ToOpen d = Meets d
  MayCarryBy ToOpenOrCreate d = OnlyRaises c.meaning c.adjusted → Meets d ⊎ IsAsPublished d

-- How many accesses a call has at most, and how many looks, openings, makings and removals of a segment.
abbrev pub IsShortBy : Way → List Letter → Type 0
IsShortBy way word = IsWithin word (limits_of way)
