-- When a factory stands.
use Rattle.std.specs.Prelude.{◌≡◌, Some, Ok}
use Rattle.iceoryx2_description.specs.Description.{IsDescription}
use Rattle.iceoryx2_data.specs.Form as form
use Rattle.iceoryx2_world.specs.declared.world.Participant.TheVariants.{Node}
use Rattle.iceoryx2_world.specs.declared.world.Ticket.{Ticket}
use Rattle.iceoryx2_world.specs.declared.world.Row.TheVariants as row
use Rattle.iceoryx2_world.specs.World.{World, row_of, segment_of, ticket_of}
use Rattle.iceoryx2_world.specs.ServiceAgreement.{HasMember}
use Rattle.iceoryx2_access.specs.Registered.{Registered}
use Rattle.iceoryx2_access.specs.Letter.{Letter}
use Rattle.iceoryx2_access.specs.Letter as letter

abbrev pub ticket_for : Registered → Ticket
ticket_for f = record { node = f.node; hash = f.description.hash; number = f.number }

-- The factory stands.
pub record Stands (w : World) (f : Registered) : Type 0 where
  -- its ticket is there, with its node, hash and number
  pub ticket : ticket_of w f.ticket ≡ Some (ticket_for f)
  -- under its number the byte form of its description is published
  pub limits : IsDescription f.description
  pub row : row_of w f.description.hash ≡ Some (row.Published f.number (form.description f.description))
  -- the segment has its number, is unmarked, and its node is in it
  pub segment : HasMember (segment_of w f.description.hash) f.number (Node f.node)

-- The letter isn't a release of this factory's ticket that was granted.
abbrev pub Spares : Registered → Letter → Type 0
Spares f (letter.Release t i h n (Ok a)) =
    (t ≡ f.ticket) → (i ≡ f.node) → (h ≡ f.description.hash) → (n ≡ f.number) → ⊥
Spares f _ = Unit {0}
