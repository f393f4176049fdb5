-- When a world agrees: for each service, and for all together, of the numbers of locks and of the tickets.
use Rattle.std.specs.Prelude.{◌≡◌, ℕ, ◌<◌, Some, None}
use Rattle.iceoryx2_description.specs.declared.description.ServiceHash.{ServiceHash}
use Rattle.iceoryx2_world.specs.declared.world.Participant.TheVariants.{Node}
use Rattle.iceoryx2_world.specs.declared.world.Ticket.{Ticket}
use Rattle.iceoryx2_world.specs.declared.world.Row.TheVariants as row
use Rattle.iceoryx2_world.specs.World.{World, row_of, phase_of, ticket_of, ticket_count, joined_number, join_count}
use Rattle.iceoryx2_world.specs.ServiceAgreement.{AgreesEverywhere, Later}

-- What crosses services. That no ticket is there twice is the form of a world: tickets are a map's keys.
pub record AgreesOnNumbers (w : World) : Type 0 where
  -- every ticket is below the counter
  pub below : (t : ℕ) (x : Ticket) → ticket_of w t ≡ Some x → t < w.counter
  -- two locks have different numbers
  pub apart : (g h : ServiceHash) (n : ℕ)
      → row_of w g ≡ Some (row.Locked n) → row_of w h ≡ Some (row.Locked n) → g ≡ h
  -- a lock's number is no ticket
  pub free : (h : ServiceHash) (n : ℕ) → row_of w h ≡ Some (row.Locked n) → ticket_of w n ≡ None

-- The tickets of nodes: a node that is Joined n k has k tickets, all of number n, and any other node none.
pub record AgreesOnTickets (w : World) : Type 0 where
  pub number : (t : ℕ) (x : Ticket)
      → ticket_of w t ≡ Some x → joined_number (phase_of w (Node x.node) x.hash) ≡ Some x.number
  pub count : (i : ℕ) (h : ServiceHash) → ticket_count w.tickets i h ≡ join_count (phase_of w (Node i) h)

-- The world agrees.
pub record Agrees (w : World) : Type 0 where
  pub everywhere : AgreesEverywhere w
  pub numbered : AgreesOnNumbers w
  pub held : AgreesOnTickets w

-- The agreement is kept, and the new world is a later one.
abbrev pub KeepsAgreement : World → World → Type 0
KeepsAgreement w v = Agrees w → Agrees v × Later w v
