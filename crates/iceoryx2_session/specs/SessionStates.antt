-- What a session shows of itself.
use Rattle.std.specs.Prelude.{ℕ, Bool}
use Rattle.iceoryx2_world.specs.Tables.{TableState}
use Rattle.iceoryx2_world.specs.World.{World}
use Rattle.iceoryx2_session.specs.declared.session.Session.{Session}
use Rattle.iceoryx2_session.specs.Sessions.{SessionOver, SessionState, shown_session}

-- over its storage
abbrev pub own_state : {S : Type 0} → Session S → SessionOver S
own_state s = record { config = s.config; table = s.storage; slots = s.slots }

-- over the table that its storage shows
abbrev pub state_of : {S : Type 0} → (S → TableState) → Session S → SessionState
state_of shown s = shown_session shown (own_state s)

-- over the world that its storage shows
abbrev pub world_state : {S : Type 0} → (S → World) → Session S → SessionOver World
world_state world s = shown_session world (own_state s)

-- which nodes are its storage's own
abbrev pub own_nodes : {S : Type 0} → (S → ℕ → Bool) → Session S → ℕ → Bool
own_nodes own s = own s.storage
