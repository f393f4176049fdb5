-- How lines are answered over a storage that processes share.
use Rattle.std.specs.Prelude.{◌≡◌, ◌≢◌, ◌⊎◌, ℕ, Bool, true, false, List, [], None, ◌++◌, codes, decimal, replicate}
use Rattle.iceoryx2_description.specs.Defaults.{default_config}
use Rattle.iceoryx2_access.specs.Letter.{Letter}
use Rattle.iceoryx2_world.specs.World.{World}
use Rattle.iceoryx2_world.specs.Agreement.{Agrees}
use Rattle.iceoryx2_builder.specs.declared.command.Call.{Call}
use Rattle.iceoryx2_builder.specs.declared.command.Command.{Command}
use Rattle.iceoryx2_builder.specs.declared.command.Command.TheVariants as command
use Rattle.iceoryx2_builder.specs.declared.command.Reply.{Reply}
use Rattle.iceoryx2_builder.specs.Commands.{slot_count}
use Rattle.iceoryx2_session.specs.Sessions.{SessionOver, shown_session}
use Rattle.iceoryx2_session.specs.CommandWords.{AppliesHeld, SpansSession}
use Rattle.iceoryx2_session.specs.Resumed.{EmptiesSlots}
use Rattle.iceoryx2_session.specs.StandingSlots.{SlotsStandInWorld}
use Rattle.negotiate_lines.specs.declared.leaf.Form.{Form}
use Rattle.negotiate_lines.specs.declared.leaf.Form.TheVariants as form
use Rattle.negotiate_lines.specs.declared.line.Line.TheVariants as parsed
use Rattle.negotiate_lines.specs.Lines.{IsLineIn}
use Rattle.explain_serve.specs.Traces.{TracedOver}
use Rattle.wulameron_serve.specs.Dead.{is_blocked}
use Rattle.wulameron_serve.specs.Views.{Writing, WritesPlain}

-- what is written of a line that names another node
abbrev pub not_ours : ℕ → List ℕ
not_ours node = codes "node " ++ decimal node ++ codes " is not this program's\n"

-- Between two lines the world agrees, the factories of all slots stand, the node is one of its own, and the storage is
-- ready for the next one.
pub record StandsFor {S : Type 0} (world : S → World) (own : S → ℕ → Bool) (ready : S → Type 0) (node : ℕ)
    (s : SessionOver S) : Type 0 where
  pub agrees : Agrees (world s.table)
  pub stand : SlotsStandInWorld (own s.table) (shown_session world s)
  pub of_own : own s.table node ≡ true
  pub is_ready : ready s.table

-- A line's command is carried out, and what is written is its reply.
pub record Replies {S : Type 0} (spans : S → S → Type 0) (step : S → Letter → S → Type 0) (world : S → World)
    (writes : Writing S) (line : List ℕ) (old : SessionOver S) (c : Command) (answer : Reply) (text : List ℕ)
    (new : SessionOver S) : Type 0 where
  pub is : AppliesHeld spans step world old c answer new
  pub is_written : writes line c answer is.first is.last new.table text

module _ {S : Type 0} (how : Form) (shows spans : S → S → Type 0) (step : S → Letter → S → Type 0)
    (world : S → World) (writes : Writing S) (node : ℕ) (line : List ℕ) where
  -- How a command of a line in this form is answered for this node: not where it names another node, and by the
  -- session's reply. After a refusal of which a dead node may be the reason, what dead nodes have is given back, and
  -- the refusal stays, or the line's call is made once more.
  pub data AnswersFor (old : SessionOver S) : Command → (text : List ℕ) → SessionOver S → Type 0 where
    of_another : {call : Call} → call.node ≢ node → AnswersFor old (command.Call call) (not_ours call.node) old
    called : {call : Call} {text : List ℕ} {new : SessionOver S} (answer : Reply) → call.node ≡ node
        → is_blocked answer ≡ false → Replies spans step world writes line old (command.Call call) answer text new
        → AnswersFor old (command.Call call) text new
    stays : {call : Call} {text : List ℕ} {new : SessionOver S} (answer : Reply) (mid : SessionOver S)
        → call.node ≡ node → is_blocked answer ≡ true
        → (is : AppliesHeld spans step world old (command.Call call) answer mid) → SpansSession shows mid new
        → writes line (command.Call call) answer is.first is.last new.table text
        → AnswersFor old (command.Call call) text new
    again : {call : Call} {text : List ℕ} {new : SessionOver S} (refused answer : Reply) (mid cleaned : SessionOver S)
        → (once : Call) → call.node ≡ node → is_blocked refused ≡ true
        → AppliesHeld spans step world old (command.Call call) refused mid → SpansSession shows mid cleaned
        → IsLineIn how line (parsed.Command (command.Call once)) → once.node ≡ node
        → Replies spans step world writes line cleaned (command.Call once) answer text new
        → AnswersFor old (command.Call call) text new
    closed : {slot : ℕ} {text : List ℕ} {new : SessionOver S} (answer : Reply)
        → Replies spans step world writes line old (command.Close slot) answer text new
        → AnswersFor old (command.Close slot) text new
    listed : {text : List ℕ} {new : SessionOver S} (answer : Reply)
        → Replies spans step world writes line old command.List answer text new → AnswersFor old command.List text new

-- What the node owes of earlier commands is given back, or none of it may be owed. Where the log's session had ended it
-- goes on in another one before. Then the slots are emptied, where a factory of them isn't there any more.
pub data GivesBack {S : Type 0} (settles : S → S → Type 0) (old : SessionOver S) : SessionOver S → Type 0 where
  none_owed : GivesBack settles old old
  are_given : {mid new : SessionOver S} → GivesBack settles old mid → SpansSession settles mid new
      → GivesBack settles old new
  are_gone : {mid new : SessionOver S} → GivesBack settles old mid → EmptiesSlots settles mid new
      → GivesBack settles old new

-- Where the slots don't hold any more what they held, it is known that something is gone.
abbrev pub KnowsWhatIsGone : {S : Type 0} → SessionOver S → (is_gone : Bool) → SessionOver S → Type 0
KnowsWhatIsGone old is_gone new = (new.slots ≡ old.slots) ⊎ (is_gone ≡ true)

module _ {S : Type 0} (how : Form) (settles shows spans : S → S → Type 0) (step : S → Letter → S → Type 0)
    (world : S → World) (writes : Writing S) (node : ℕ) (line : List ℕ) where
  -- A command is answered after what others did was shown, and after that, with this behind the answer. Where the log's
  -- session ended meanwhile, it goes on in another one.
  pub record AnswersWith (ending : List ℕ) (old : SessionOver S) (c : Command) (text : List ℕ) (new : SessionOver S)
      : Type 0 where
    pub shown : SessionOver S
    pub looks : SpansSession shows old shown
    pub settled : SessionOver S
    pub gives : GivesBack settles shown settled
    pub answered : SessionOver S
    pub output : List ℕ
    pub answers : AnswersFor how shows spans step world writes node line settled c output answered
    pub are : text ≡ output ++ ending
    pub goes_on : GivesBack settles answered new

-- The text begins with what is written without explanations, over the storage inside.
pub record BeginsAsAnswered {S : Type 0} (settles shows spans : S → S → Type 0) (step : S → Letter → S → Type 0)
    (world : S → World) (node : ℕ) (line : List ℕ) (old : TracedOver S) (c : Command) (text : List ℕ)
    (new : TracedOver S) : Type 0 where
  pub output : List ℕ
  pub explanation : List ℕ
  pub are : text ≡ output ++ explanation
  pub answers : AnswersWith form.Plain settles shows spans step world WritesPlain node line []
      (shown_session (λ traced. traced.inner) old) c output (shown_session (λ traced. traced.inner) new)

-- a session over this storage that has done nothing yet
abbrev pub fresh_session : {S : Type 0} → S → SessionOver S
fresh_session storage = record { config = default_config; table = storage; slots = replicate slot_count None }
