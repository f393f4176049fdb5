-- What is printed of a command and its reply.
use Rattle.std.specs.Prelude.{◌≡◌, ℕ, List, [], ◌++◌, Option, Some, None}
use Rattle.iceoryx2_description.specs.Description.{Description}
use Rattle.iceoryx2_testing.specs.Trace.{TracedState}
use Rattle.iceoryx2_world.specs.declared.listing.Entry.{Entry}
use Rattle.iceoryx2_world.specs.Listing.{Lists}
use Rattle.iceoryx2_world.specs.World.{World}
use Rattle.iceoryx2_builder.specs.declared.command.Call.{Call}
use Rattle.iceoryx2_builder.specs.declared.command.Command.{Command}
use Rattle.iceoryx2_builder.specs.declared.command.Command.TheVariants as command
use Rattle.iceoryx2_errors.specs.declared.refusal.Refusal.{Refusal}
use Rattle.iceoryx2_builder.specs.declared.command.Reply.{Reply}
use Rattle.iceoryx2_builder.specs.declared.command.Reply.TheVariants as reply
use Rattle.negotiate_lines.specs.declared.line.Line.{Line}
use Rattle.negotiate_lines.specs.declared.line.Line.TheVariants as kind
use Rattle.negotiate_lines.specs.Lines.{IsLine, without_last}
use Rattle.negotiate_serve.specs.Replies.{IsReplyText}
use Rattle.negotiate_serve.specs.Transcripts.{slot_named}
use Rattle.explain_serve.specs.Accesses.{trace_lines}
use Rattle.explain_serve.specs.Diagrams.{messages, note_line}
use Rattle.explain_serve.specs.Offers.{offer_lines}
use Rattle.explain_serve.specs.Refusals.{refusal_row, row_lines}
use Rattle.explain_serve.specs.Standing.{IsFound}
use Rattle.explain_serve.specs.declared.format.Format.{Format}
use Rattle.explain_serve.specs.declared.format.Format.TheVariants as format
use Rattle.explain_serve.specs.Traces.{TracedSession, made_between, table_world}

-- ---- in lines

-- of what a call required, what is offered by the service that it found, if it found one
abbrev pub found_lines : Call → Refusal → Option Description → List ℕ
found_lines call refused None = []
found_lines call refused (Some d) = offer_lines call refused d

-- What a refused call required, and what is offered by the service of its name and pattern in this world.
pub record IsFoundText (call : Call) (refused : Refusal) (w : World) (text : List ℕ) : Type 0 where
  pub entries : List Entry
  pub lists : Lists w entries
  pub found : Option Description
  pub is_found : IsFound call entries found
  pub are : text ≡ found_lines call refused found

-- the call of a line
abbrev pub call_of : Line → Option Call
call_of (kind.Command (command.Call call)) = Some call
call_of _ = None

-- The line is this call.
abbrev pub IsCallLine : List ℕ → Call → Type 0
IsCallLine line call = IsLine line (kind.Command (command.Call call))

-- Its row, and what the line's call required and is offered.
pub record IsRefusalText (line : List ℕ) (refused : Refusal) (w : World) (text : List ℕ) : Type 0 where
  pub call : Call
  pub is_line : IsCallLine line call
  pub offer : List ℕ
  pub offered : IsFoundText call refused w offer
  pub are : text ≡ row_lines (refusal_row refused) ++ offer

-- the refusal of a reply
abbrev pub refusal_of : Reply → Option Refusal
refusal_of (reply.Refused refused) = Some refused
refusal_of _ = None

-- of a refusal so much, and where there is none nothing
abbrev pub IsReasonText : (line : List ℕ) → Option Refusal → World → (text : List ℕ) → Type 0
IsReasonText line None w text = text ≡ []
IsReasonText line (Some refused) w text = IsRefusalText line refused w text

-- The reply to a command for this slot, the accesses, which are the latest so many, and why.
pub record IsTextInLines {S : Type 0} (world : S → World) (line : List ℕ) (slot : ℕ) (reply : Reply) (made : ℕ)
    (traced : TracedState S) (text : List ℕ) : Type 0 where
  pub output : List ℕ
  pub is_text : IsReplyText slot reply output
  pub why : List ℕ
  pub is_reason : IsReasonText line (refusal_of reply) (world traced.inner) why
  pub are : text ≡ output ++ (trace_lines made traced.entries ++ why)

-- Where there is a refusal the line is a call.
abbrev pub MayHaveReason : (line : List ℕ) → Option Refusal → Type 0
MayHaveReason line None = Unit {0}
MayHaveReason line (Some refused) = (call : Call) × IsCallLine line call

-- ---- as a diagram

-- the node that a command names. A close and a list name none, and each of their accesses names its own.
abbrev pub node_named : Command → ℕ
node_named (command.Call call) = call.node
node_named (command.Close slot) = 0
node_named command.List = 0

-- The accesses, and the reply as a note, without the line feed at its end.
pub record IsTextInDiagram {S : Type 0} (node slot : ℕ) (reply : Reply) (made : ℕ) (traced : TracedState S)
    (text : List ℕ) : Type 0 where
  pub output : List ℕ
  pub is_text : IsReplyText slot reply output
  pub are : text ≡ messages node made traced.entries ++ note_line (without_last 10 output)

-- ---- in either

abbrev pub IsExplanationText : Format → (line : List ℕ) → Command → Reply → (old new : TracedSession) → (text : List ℕ)
    → Type 0
IsExplanationText format.Lines line c reply old new text =
    IsTextInLines table_world line (slot_named c) reply (made_between old new) new.table text
IsExplanationText format.Diagram line c reply old new text =
    IsTextInDiagram (node_named c) (slot_named c) reply (made_between old new) new.table text
