-- What the program prints of an input.
use Rattle.std.specs.Prelude.{◌≡◌, ℕ, List, ◌++◌, Option, Result, Err}
use Rattle.std.specs.Io.KnownBytes.{Appends}
use Rattle.iceoryx2_description.specs.Defaults.{default_config}
use Rattle.iceoryx2_builder.specs.declared.command.Command.{Command}
use Rattle.iceoryx2_builder.specs.declared.command.Reply.{Reply}
use Rattle.iceoryx2_session.specs.QuietSessions.{Moves}
use Rattle.negotiate_serve.specs.declared.ending.Ending.{Ending}
use Rattle.negotiate_serve.specs.declared.ending.ServeError.{ServeError}
use Rattle.negotiate_serve.specs.Endings.{IsOfWriting}
use Rattle.negotiate_serve.specs.Outputs.{IsFrontOf}
use Rattle.negotiate_serve.specs.Served.{ShowsMachine}
use Rattle.negotiate_serve.specs.Transcripts.{Machine, first_machine, IsTranscriptBy}
use Rattle.explain_serve.specs.declared.format.Format.{Format}
use Rattle.explain_serve.specs.Explained.{IsExplanationText}
use Rattle.explain_serve.specs.Formats.{head_of}
use Rattle.explain_serve.specs.Traces.{TracedSession, session_inside, first_session, AppliesTraced, HasItsRoom}

-- a session over a traced table, beside the machine that its table shows
pub record ExplainState : Type 0 where
  pub session : TracedSession
  pub machine : Machine

abbrev pub first_state : ExplainState
first_state = record { session = first_session; machine = first_machine }

-- The session carries a command out, the machine of `negotiate` replies to it alike, and the text tells of both.
pub record Explains (format : Format) (old : ExplainState) (line : List ℕ) (c : Command) (text : List ℕ)
    (new : ExplainState) : Type 0 where
  pub reply : Reply
  pub goes : AppliesTraced old.session c reply new.session
  pub moves : Moves default_config old.machine.services old.machine.slots c reply
      new.machine.services new.machine.slots
  pub is_text : IsExplanationText format line c reply old.session new.session text

-- What the program prints of an input, behind its head, and what it leaves unread, where it ends so.
abbrev pub IsExplanation : Format → (input : List ℕ) → Result Ending ServeError → (output unread : List ℕ) → Type 0
IsExplanation format = IsTranscriptBy (Explains format) first_state

-- The writer has taken the head and an input's explanation, and nothing else; or writing failed in the head.
pub data ExplainsInput (format : Format) (ended : Result Ending ServeError) (input : List ℕ)
    (old new : Option (List ℕ)) : Type 0 where
  explained : (output unread : List ℕ) → IsExplanation format input ended output unread
      → Appends old new (head_of format ++ output) → ExplainsInput format ended input old new
  not_begun : (f : ServeError) (front : List ℕ) → ended ≡ Err f → IsOfWriting f → IsFrontOf front (head_of format)
      → Appends old new front → ExplainsInput format ended input old new

-- ---- the explainer

-- The session shows the machine, and its trace has its room.
pub record ShowsState (s : TracedSession) (m : Machine) : Type 0 where
  pub shows : ShowsMachine (session_inside s) m
  pub room : HasItsRoom s.table

-- The session shows some machine.
abbrev pub ShowsSomeState : TracedSession → Type 0
ShowsSomeState s = (m : Machine) × ShowsState s m

-- It explains as each machine replies that it shows, and it shows that one afterwards.
pub record ExplainsAs (format : Format) (old : TracedSession) (m : Machine) (line : List ℕ) (c : Command)
    (text : List ℕ) (new : TracedSession) : Type 0 where
  pub machine : Machine
  pub explains : Explains format
      (record { session = old; machine = m }) line c text (record { session = new; machine = machine })
  pub shows : ShowsState new machine

abbrev pub AnswersAs : Format → TracedSession → (line : List ℕ) → Command → (text : List ℕ) → TracedSession → Type 0
AnswersAs format old line c text new = (m : Machine) → ShowsState old m → ExplainsAs format old m line c text new
