-- What a node has in a world, and stays where the node doesn't give it back.
use Rattle.std.specs.Prelude.{◌≡◌, ◌≢◌, ℕ, Bool, true, false, ◌==◌, ◌&&◌, ◌||◌, List, Option, Some, None, is_some}
use Rattle.std.specs.List.{find}
use Rattle.std.specs.Option.{option_map}
use Rattle.std.specs.Ordering.{eq_by_cmp}
use Rattle.iceoryx2_description.specs.declared.description.ServiceHash.{ServiceHash}
use Rattle.iceoryx2_world.specs.declared.world.Participant.{Participant}
use Rattle.iceoryx2_world.specs.declared.world.Participant.TheVariants.{Node}
use Rattle.iceoryx2_world.specs.declared.world.Phase.{Phase}
use Rattle.iceoryx2_world.specs.declared.world.Ticket.{Ticket}
use Rattle.iceoryx2_world.specs.Orders.{participant_cmp}
use Rattle.iceoryx2_world.specs.World.{World, locked_number, is_last, phase_of, tag_of, ticket_of}
use Rattle.iceoryx2_table.specs.declared.holdings.Holding.{Holding}
use Rattle.iceoryx2_table.specs.declared.holdings.Holding.TheVariants as holding

-- it has the service's lock, or has to remove what is left of it
abbrev pub is_unfinished : Phase → Bool
is_unfinished x = is_some (locked_number x) || is_last x

module _ (i : ℕ) where
  -- the first entry that is the node's, as what it has
  abbrev pub held_ticket : List (ℕ × Ticket) → Option Holding
  held_ticket es = option_map (λ e. holding.Ticket e.0 e.1.hash e.1.number) (find (λ e. e.1.node == i) es)

  abbrev pub held_service : List ((Participant × ServiceHash) × Phase) → Option Holding
  held_service es = option_map (λ e. holding.Service e.0.1 e.1)
      (find (λ e. eq_by_cmp participant_cmp e.0.0 (Node i) && is_unfinished e.1) es)

  abbrev pub held_tag : List ((ℕ × ServiceHash) × Unit {0}) → Option Holding
  held_tag es = option_map (λ e. holding.Tag e.0.1) (find (λ e. e.0.0 == i) es)

module _ (w : World) (i : ℕ) where
  -- The node has no ticket,
  abbrev pub HasNoTicket : Type 0
  HasNoTicket = (t : ℕ) (x : Ticket) → ticket_of w t ≡ Some x → x.node ≢ i

  -- it is creating no service, and has none to remove,
  abbrev pub HasFinished : Type 0
  HasFinished = (h : ServiceHash) → is_unfinished (phase_of w (Node i) h) ≡ false

  -- and it has no tag.
  abbrev pub HasNoTag : Type 0
  HasNoTag = (h : ServiceHash) → tag_of w i h ≡ false

  -- Something that the node has: a ticket; a service that it hasn't finished with, where it has no ticket; a tag, where
  -- it has neither. Nothing where it has none of these.
  abbrev pub IsHolding : Option Holding → Type 0
  IsHolding (Some (holding.Ticket t h n)) = ticket_of w t ≡ Some (record { node = i; hash = h; number = n })
  IsHolding (Some (holding.Service h x)) =
      HasNoTicket × (phase_of w (Node i) h ≡ x) × (is_unfinished x ≡ true)
  IsHolding (Some (holding.Tag h)) = HasNoTicket × HasFinished × (tag_of w i h ≡ true)
  IsHolding None = HasNoTicket × HasFinished × HasNoTag
