-- The tickets after a whole call.
use Rattle.std.specs.Prelude.{◌≡◌, ◌≢◌, ℕ, Bool, true, Some, Result, Ok, Err}
use Rattle.std.specs.FinMap as map
use Rattle.iceoryx2_world.specs.declared.world.Ticket.{Ticket}
use Rattle.iceoryx2_world.specs.World.{World, Tickets, ticket_of}
use Rattle.iceoryx2_world.specs.Standing.{ticket_for}
use Rattle.iceoryx2_access.specs.Registered.{Registered}
use Rattle.iceoryx2_errors.specs.declared.error.CloseError.{CloseError}
use Rattle.iceoryx2_errors.specs.declared.error.CloseError.TheVariants.{NotHere}

-- the tickets after a create, an open or an open or create: one more where it gave a factory
abbrev pub tickets_after : {E : Type 0} → Tickets → Result Registered E → Tickets
tickets_after k (Ok r) = map.insert k r.ticket (ticket_for r)
tickets_after k (Err e) = k

-- what a close answers
abbrev pub CloseAnswer : Type 0
CloseAnswer = Result (Unit {0}) (CloseError Registered)

-- It doesn't hand its factory back.
abbrev pub HandsNothingBack : CloseAnswer → Type 0
HandsNothingBack answer = (s : Registered) → answer ≢ Err (NotHere s)

-- the tickets after the close of a factory: without its own, unless that wasn't there
abbrev pub tickets_after_close : Tickets → Registered → CloseAnswer → Tickets
tickets_after_close k r (Err (NotHere s)) = k
tickets_after_close k r _ = map.remove k r.ticket

-- No own node has this ticket.
abbrev pub HasNoTicket : (own : ℕ → Bool) → World → ℕ → Type 0
HasNoTicket own w t = (x : Ticket) → own x.node ≡ true → ticket_of w t ≢ Some x
