-- What a session over a table of its own answers.
use Rattle.std.specs.Prelude.{◌≡◌, ℕ, List}
use Rattle.iceoryx2_builder.specs.declared.command.Command.{Command}
use Rattle.iceoryx2_builder.specs.declared.command.Reply.{Reply}
use Rattle.iceoryx2_description.specs.Defaults.{default_config}
use Rattle.iceoryx2_session.specs.QuietSessions.{IsQuiet, Moves}
use Rattle.iceoryx2_session.specs.Sessions.{SessionState}
use Rattle.iceoryx2_session.specs.StandingSlots.{SlotsStand}
use Rattle.negotiate_serve.specs.Transcripts.{Machine, slot_named}

-- The session shows the machine of `negotiate`: nobody else uses its table, which shows the machine's services, its
-- slots hold what those of the machine hold, and its factories stand. What was abandoned is still counted there.
pub record ShowsMachine (s : SessionState) (m : Machine) : Type 0 where
  pub configured : s.config ≡ default_config
  pub quiet : IsQuiet s m.services
  pub slots : s.slots ≡ m.slots
  pub stand : SlotsStand s

abbrev pub ShowsSome : SessionState → Type 0
ShowsSome s = (m : Machine) × ShowsMachine s m

-- The machine moves by a command, the session shows it again, and the text is that of the reply.
pub record RepliesAs (IsText : ℕ → Reply → List ℕ → Type 0) (m : Machine) (c : Command) (text : List ℕ)
    (new : SessionState) : Type 0 where
  pub machine : Machine
  pub reply : Reply
  pub moves : Moves default_config m.services m.slots c reply machine.services machine.slots
  pub is_text : IsText (slot_named c) reply text
  pub shows : ShowsMachine new machine

-- The session replies to a command as each machine does that it shows.
abbrev pub SessionReplies : (IsText : ℕ → Reply → List ℕ → Type 0) → SessionState → Command → (text : List ℕ)
    → SessionState → Type 0
SessionReplies IsText old c text new = (m : Machine) → ShowsMachine old m → RepliesAs IsText m c text new
