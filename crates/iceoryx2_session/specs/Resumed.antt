-- How a session goes on after what its storage stands on was gone.
use Rattle.std.specs.Prelude.{◌≡◌, ℕ, Bool, true, false, List, Option, Some, None, replicate}
use Rattle.iceoryx2_access.specs.Registered.{Registered}
use Rattle.iceoryx2_world.specs.Standing.{ticket_for}
use Rattle.iceoryx2_world.specs.World.{World, ticket_of}
use Rattle.iceoryx2_builder.specs.Commands.{slot_count}
use Rattle.iceoryx2_session.specs.CommandWords.{SpansSession}
use Rattle.iceoryx2_session.specs.Sessions.{SessionOver}
use Rattle.iceoryx2_session.specs.Slots.{HoldsAt}

-- Each slot's factory has its ticket in the world.
abbrev pub HaveTickets : World → List (Option Registered) → Type 0
HaveTickets w slots = (k : ℕ) (f : Registered) → HoldsAt slots k f → ticket_of w f.ticket ≡ Some (ticket_for f)

-- The storage goes on, and the slots are emptied.
pub record EmptiesSlots {S : Type 0} (settles : S → S → Type 0) (old new : SessionOver S) : Type 0 where
  pub same : new ≡ record old { table = new.table; slots = replicate slot_count None }
  pub changes : settles old.table new.table

-- The storage goes on, and the slots hold what they held; or they are emptied.
abbrev pub ResumesSession : {S : Type 0} (settles : S → S → Type 0) → Bool → SessionOver S → SessionOver S → Type 0
ResumesSession settles true old new = SpansSession settles old new
ResumesSession settles false old new = EmptiesSlots settles old new
