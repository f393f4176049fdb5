-- How a reply is written, by the storage over which a session is.
use Rattle.std.specs.Prelude.{ℕ, List}
use Rattle.iceoryx2_access.specs.Letter.{Letter}
use Rattle.iceoryx2_world.specs.World.{World}
use Rattle.iceoryx2_builder.specs.declared.command.Command.{Command}
use Rattle.iceoryx2_builder.specs.declared.command.Reply.{Reply}
use Rattle.iceoryx2_session.specs.Sessions.{SessionOver}
use Rattle.iceoryx2_testing.specs.Trace.{TracedState}
use Rattle.negotiate_lines.specs.declared.leaf.Form.{Form}
use Rattle.negotiate_lines.specs.declared.leaf.Form.TheVariants as form
use Rattle.negotiate_serve.specs.Replies.{IsReplyText}
use Rattle.negotiate_serve.specs.Transcripts.{slot_named}
use Rattle.escaped_serve.specs.Replies.{IsEscapedReply}
use Rattle.explain_serve.specs.Explained.{IsTextInLines, MayHaveReason, refusal_of}
use Rattle.explain_serve.specs.Traces.{AppliesTracedBy, TracedOver, made_between}

-- what is written of a reply to a line's command, by which a session came from one state to another, as the storage is
-- shown then
abbrev pub Writing : Type 0 → Type 1
Writing S = (line : List ℕ) → Command → Reply → (first last : SessionOver S) → (shown : S) → (text : List ℕ) → Type 0

-- The text is the reply.
abbrev pub WritesPlain : {S : Type 0} → Writing S
WritesPlain line c reply first last shown text = IsReplyText (slot_named c) reply text

-- All accesses of the command's word are kept. The text has the reply, these accesses, and of a refusal why it comes.
pub record WritesExplained {S : Type 0} (step : S → Letter → S → Type 0) (world : S → World) (line : List ℕ)
    (c : Command) (reply : Reply) (first last : TracedOver S) (shown : TracedState S) (text : List ℕ) : Type 0 where
  pub goes : AppliesTracedBy step world first c reply last
  pub is_text : IsTextInLines world line (slot_named c) reply (made_between first last) shown text

-- how a reply to a line in this form is written: by the storage, or escaped
abbrev pub writes_in : {S : Type 0} → Form → Writing S → Writing S
writes_in form.Plain writes = writes
writes_in form.Escaped writes = λ line c reply first last shown text. IsEscapedReply (slot_named c) reply text

-- A reply to a line in this form may be written: where the storage may tell why it is a refusal, the line is a call.
abbrev pub MayWrite : Form → (line : List ℕ) → Reply → Type 0
MayWrite form.Plain line reply = MayHaveReason line (refusal_of reply)
MayWrite form.Escaped line reply = Unit {0}
