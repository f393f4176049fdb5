-- What an access changes of published descriptions and of counts.
use Rattle.std.specs.Prelude.{◌≡◌, ℕ, List, Option, Some, None, Ok}
use Rattle.iceoryx2_description.specs.declared.description.ServiceHash.{ServiceHash}
use Rattle.iceoryx2_world.specs.declared.world.Participant.{Participant}
use Rattle.iceoryx2_world.specs.declared.world.Row.{Row}
use Rattle.iceoryx2_world.specs.declared.world.Row.TheVariants as row
use Rattle.iceoryx2_world.specs.World.{World, row_of, count_of}
use Rattle.iceoryx2_access.specs.Letter.{Letter}
use Rattle.iceoryx2_access.specs.Letter as letter

-- the number and the bytes of what is published
abbrev pub published_of : Option Row → Option (ℕ × List ℕ)
published_of (Some (row.Published n b)) = Some (n, b)
published_of _ = None

-- Nothing that is published changes, and nobody's count.
pub record SameServices (old new : World) : Type 0 where
  pub published : (h : ServiceHash) → published_of (row_of new h) ≡ published_of (row_of old h)
  pub counts : (p : Participant) (h : ServiceHash) → count_of new p h ≡ count_of old p h

-- whatever it finds, the access changes none of these
abbrev pub IsCalmLetter : Letter → Type 0
IsCalmLetter (letter.RemoveDescription i h (Ok a)) = ⊥
IsCalmLetter (letter.Publish i h n d (Ok t)) = ⊥
IsCalmLetter (letter.OpenSegment i h n (Ok t)) = ⊥
IsCalmLetter (letter.Release t i h n (Ok a)) = ⊥
IsCalmLetter _ = Unit {0}
