-- The factories of a session's slots, over any world that agrees.
use Rattle.std.specs.Prelude.{◌≡◌, ◌<◌, ℕ, Bool, true, List, Option, Some, None, slice_set}
use Rattle.iceoryx2_description.specs.declared.config.Config.{Config}
use Rattle.iceoryx2_world.specs.declared.world.Ticket.{Ticket}
use Rattle.iceoryx2_world.specs.World.{World, ticket_of}
use Rattle.iceoryx2_world.specs.Agreement.{Agrees}
use Rattle.iceoryx2_world.specs.Interference.{everyone, IsFallibleUnder}
use Rattle.iceoryx2_world.specs.Standing.{Stands}
use Rattle.iceoryx2_world.specs.Tables.{IsTableAccess}
use Rattle.iceoryx2_access.specs.Letter.{Letter}
use Rattle.iceoryx2_access.specs.Registered.{Registered}
use Rattle.iceoryx2_session.specs.Slots.{HoldsAt}
use Rattle.iceoryx2_builder.specs.declared.command.Command.{Command}
use Rattle.iceoryx2_builder.specs.declared.command.Command.TheVariants as command
use Rattle.iceoryx2_builder.specs.declared.command.Reply.{Reply}
use Rattle.iceoryx2_builder.specs.Commands.{slot_count}
use Rattle.iceoryx2_session.specs.Patterns.{builder_call}
use Rattle.iceoryx2_session.specs.Sessions.{SessionOver, SessionState, AppliesBy, IsClosedPlaceBy}
use Rattle.iceoryx2_session.specs.Promised.{CallsAsPromisedBy}

-- A slot's factory has this ticket.
pub record HasTicket (slots : List (Option Registered)) (t : ℕ) : Type 0 where
  pub slot : ℕ
  pub factory : Registered
  pub holds : HoldsAt slots slot factory
  pub ticket : factory.ticket ≡ t

-- ---- of own nodes, over a storage with a world inside. `own` tells which nodes are one's own.

module _ (own : ℕ → Bool) (w : World) (slots : List (Option Registered)) where
  -- Each slot's factory is of an own node and stands, with a ticket of its own.
  pub record SlotsStandUnder : Type 0 where
    pub of_own : (k : ℕ) (f : Registered) → HoldsAt slots k f → own f.node ≡ true
    pub stand : (k : ℕ) (f : Registered) → HoldsAt slots k f → Stands w f
    pub apart : (j k : ℕ) (f g : Registered) → HoldsAt slots j f → HoldsAt slots k g
        → f.ticket ≡ g.ticket → j ≡ k

  -- Each ticket of an own node is that of a slot's factory.
  abbrev pub OwnsTicketsUnder : Type 0
  OwnsTicketsUnder = (t : ℕ) (x : Ticket) → own x.node ≡ true → ticket_of w t ≡ Some x → HasTicket slots t

-- The caller of a command's builder call is an own node.
abbrev pub IsOfOwn : (own : ℕ → Bool) → Config → Command → Type 0
IsOfOwn own config (command.Call call) = own (builder_call config call).call.caller.node ≡ true
IsOfOwn own config _ = Unit {0}

module _ {S : Type 0} (step : S → Letter → S → Type 0) (world : S → World) (own : ℕ → Bool) where
  -- A command leads to a state whose world agrees, and in which the factories of all slots stand; and a call is as
  -- every call is.
  abbrev pub AppliesStandingUnder : SessionOver S → Command → Reply → SessionOver S → Type 0
  AppliesStandingUnder old c a new = AppliesBy step world old c a new × Agrees (world new.table)
      × SlotsStandUnder own (world new.table) new.slots × CallsAsPromisedBy step world own old c a new

-- The close of a slot that holds a factory is Ok: the factory doesn't come back, and the slot is free.
abbrev pub ClosesTakenBy : {S : Type 0} (step : S → Letter → S → Type 0)
    → SessionOver S → Command → SessionOver S → Type 0
ClosesTakenBy step old (command.Close slot) new = (f : Registered) → slot < slot_count → HoldsAt old.slots slot f
    → IsClosedPlaceBy step old.table (Some f) new.table × (new.slots ≡ slice_set old.slots slot None)
ClosesTakenBy step old (command.Call call) new = Unit {0}
ClosesTakenBy step old command.List new = Unit {0}

-- ---- over a table, at which every node is one's own

abbrev pub SlotsStand : SessionState → Type 0
SlotsStand s = SlotsStandUnder everyone s.table.world s.slots

-- Each ticket of the session's table is that of a slot's factory.
abbrev pub OwnsTickets : SessionState → Type 0
OwnsTickets s = OwnsTicketsUnder everyone s.table.world s.slots

abbrev pub ClosesTaken : SessionState → Command → SessionState → Type 0
ClosesTaken = ClosesTakenBy IsTableAccess

-- There a close is Ok too.
abbrev pub AppliesStanding : SessionState → Command → Reply → SessionState → Type 0
AppliesStanding old c a new =
    AppliesStandingUnder IsTableAccess (λ table. table.world) everyone old c a new × ClosesTaken old c new

-- ---- over a world, whatever others do before an access of it, and whichever of these is refused

abbrev pub SlotsStandInWorld : (own : ℕ → Bool) → SessionOver World → Type 0
SlotsStandInWorld own s = SlotsStandUnder own s.table s.slots

abbrev pub OwnsTicketsInWorld : (own : ℕ → Bool) → SessionOver World → Type 0
OwnsTicketsInWorld own s = OwnsTicketsUnder own s.table s.slots

abbrev pub AppliesStandingInWorld : (own : ℕ → Bool) → SessionOver World → Command → Reply → SessionOver World → Type 0
AppliesStandingInWorld own = AppliesStandingUnder (IsFallibleUnder own) (λ w. w) own
