-- What a program writes of an input, line by line. docs/PROGRAM.md has the same in words.
use Rattle.std.specs.Prelude.{◌≡◌, ℕ, ◌+◌, ◌-◌, ◌^◌, List, [], ◌∷◌, ◌++◌, Option, None, Result, Ok, Err}
use Rattle.std.specs.Prelude.{codes, decimal, length, replicate}
use Rattle.std.specs.List.{concat}
use Rattle.iceoryx2_access.specs.Registered.{Registered}
use Rattle.iceoryx2_description.specs.Defaults.{default_config}
use Rattle.iceoryx2_call_laws.specs.Quiet.{Quiet, no_service}
use Rattle.iceoryx2_builder.specs.declared.command.Command.{Command}
use Rattle.iceoryx2_builder.specs.declared.command.Command.TheVariants as command
use Rattle.iceoryx2_builder.specs.declared.command.Reply.{Reply}
use Rattle.iceoryx2_builder.specs.Commands.{slot_count}
use Rattle.iceoryx2_session.specs.CommandLists.{CarriesOut}
use Rattle.iceoryx2_session.specs.QuietSessions.{Moves}
use Rattle.negotiate_lines.specs.declared.line.Line.TheVariants as line
use Rattle.negotiate_lines.specs.Lines.{IsLine, IsNoCommand}
use Rattle.negotiate_lines.specs.declared.line_error.LineError.{LineError}
use Rattle.negotiate_lines.specs.WrongTexts.{IsWrongText}
use Rattle.negotiate_serve.specs.declared.ending.Ending.{Ending}
use Rattle.negotiate_serve.specs.declared.ending.Ending.TheVariants as ending
use Rattle.negotiate_serve.specs.declared.ending.ServeError.{ServeError}
use Rattle.negotiate_serve.specs.declared.ending.ServeError.TheVariants as failure
use Rattle.negotiate_serve.specs.declared.ending.WrongLines.{WrongLines}
use Rattle.negotiate_serve.specs.declared.ending.WrongLines.TheVariants as wrong_lines
use Rattle.negotiate_serve.specs.Inputs.{BeginsWith}
use Rattle.negotiate_serve.specs.Outputs.{IsFrontOf}
use Rattle.negotiate_serve.specs.Replies.{IsReplyText}

-- ---- what answers lines, whatever its states are

-- how the command of a line is answered by a text, from a state to the next one
abbrev pub Answering : Type 0 → Type 1
Answering M = M → (line : List ℕ) → Command → (text : List ℕ) → M → Type 0

-- how a line is answered by a text
abbrev pub AnsweringLines : Type 0 → Type 1
AnsweringLines M = M → (line text : List ℕ) → M → Type 0

-- A line is answered, by nothing where it is blank, and where it is a command as that is. This leaves a new state.
pub data AnswersLineBy {M : Type 0} (Answers : Answering M) (m : M) : (line text : List ℕ) → M → Type 0 where
  blank : {bytes : List ℕ} → IsLine bytes line.Blank → AnswersLineBy Answers m bytes [] m
  answered : {bytes text : List ℕ} {c : Command} {n : M} → IsLine bytes (line.Command c)
      → Answers m bytes c text n → AnswersLineBy Answers m bytes text n

-- The text is the reply to a line of which this is wrong, with an end after it.
abbrev pub IsReplyToWrong : (end : List ℕ) → LineError → List ℕ → Type 0
IsReplyToWrong end w text =
    (told : List ℕ) × IsWrongText w told × (text ≡ codes "error: " ++ (told ++ (codes "\n" ++ end)))

-- The text is the reply to a line that is neither blank nor a command.
pub record IsErrorReply (end bytes text : List ℕ) : Type 0 where
  pub wrong : LineError
  pub no_command : IsLine bytes (line.NotACommand wrong)
  pub is_reply : IsReplyToWrong end wrong text

-- Each line is answered, also one that is neither blank nor a command, by what is wrong with it. That leaves the state.
pub data AnswersEachBy {M : Type 0} (end : List ℕ) (Answers : Answering M) (m : M) : (line text : List ℕ) → M
    → Type 0 where
  as_command : {bytes text : List ℕ} {n : M} → AnswersLineBy Answers m bytes text n
      → AnswersEachBy end Answers m bytes text n
  refused : {bytes text : List ℕ} → IsErrorReply end bytes text → AnswersEachBy end Answers m bytes text m

-- which lines are answered, where commands are so: those that are blank or a command, or each
abbrev pub LinesBy : {M : Type 0} → WrongLines → Answering M → AnsweringLines M
LinesBy wrong_lines.End Answers = AnswersLineBy Answers
LinesBy wrong_lines.Reply Answers = AnswersEachBy [] Answers
LinesBy wrong_lines.ReplyAndEmptyLine Answers = AnswersEachBy (codes "\n") Answers

-- what is written of the line with this number where it is neither blank nor a command
abbrev pub not_a_command : ℕ → List ℕ
not_a_command k = codes "line " ++ decimal k ++ codes ": not a command\n"

-- what is written where memory runs out outside a call
abbrev pub out_of_memory : List ℕ
out_of_memory = codes "out of memory\n"

-- ---- how it ends

-- What comes next, behind the answers to lines: that to the next line, which has this number; that it is neither blank
-- nor a command; or that memory ran out.
pub data ComesNext {M : Type 0} (Answers : AnsweringLines M) (m : M) (k : ℕ) (rest : List ℕ) : List ℕ → Type 0 where
  answer : {bytes text behind : List ℕ} {n : M} → BeginsWith rest (bytes ∷ []) behind
      → Answers m bytes text n → ComesNext Answers m k rest text
  no_command : {bytes behind : List ℕ} → BeginsWith rest (bytes ∷ []) behind
      → IsNoCommand bytes → ComesNext Answers m k rest (not_a_command k)
  no_memory : ComesNext Answers m k rest out_of_memory

-- The next line, which has this number, is neither blank nor a command. Nothing behind it is read.
pub record IsAtNoCommand (k : ℕ) (bytes rest last unread : List ℕ) : Type 0 where
  pub stands : BeginsWith rest (bytes ∷ []) unread
  pub no_command : IsNoCommand bytes
  pub output : last ≡ not_a_command k

-- The writer has taken a front of what comes next.
abbrev pub IsCut : {M : Type 0} → AnsweringLines M → M → (number : ℕ) → (rest last : List ℕ) → Type 0
IsCut Answers m k rest last = (next : List ℕ) × ComesNext Answers m k rest next × IsFrontOf last next

-- It may end so. A line that is neither blank nor a command ends it only where such a line does.
abbrev pub MayEnd : (AtWrong : Type 0) → Ending → Type 0
MayEnd AtWrong ending.InputEnded = Unit {0}
MayEnd AtWrong (ending.NotACommand number line) = AtWrong

-- how many lines are answered at most
abbrev pub most_lines : ℕ
most_lines = 2 ^ 64 - 2

-- what is written last, behind the answers to lines, and what is left unread: at the end of the input, at a line that
-- is neither blank nor a command, where reading failed, behind as many lines as are answered at most, where memory ran
-- out, and where the writer failed or was interrupted too often, which has taken a front of what comes next
abbrev pub EndsWith : {M : Type 0} → AnsweringLines M → Result Ending ServeError → M → (number : ℕ)
    → (rest last unread : List ℕ) → Type 0
EndsWith Answers (Ok ending.InputEnded) m k rest last unread = (rest ≡ []) × (last ≡ []) × (unread ≡ [])
EndsWith Answers (Ok (ending.NotACommand number line)) m k rest last unread =
    (number ≡ k) × IsAtNoCommand k line.items rest last unread
EndsWith Answers (Err failure.Reading) m k rest last unread = last ≡ []
EndsWith Answers (Err failure.TooManyLines) m k rest last unread = (k ≡ most_lines + 1) × (last ≡ [])
EndsWith Answers (Err failure.OutOfMemory) m k rest last unread = last ≡ out_of_memory
EndsWith Answers (Err failure.Writing) m k rest last unread = IsCut Answers m k rest last
EndsWith Answers (Err failure.TooManyTries) m k rest last unread = IsCut Answers m k rest last

-- The first lines of an input are answered one after the other, each by its text, and then it ends so. The number of
-- the line that would be the next is counted from 1.
pub record IsAnswered {M : Type 0} (Answers : AnsweringLines M) (first : M)
    (Ends : M → ℕ → (rest last unread : List ℕ) → Type 0) (input output unread : List ℕ) : Type 0 where
  pub lines : List (List ℕ)
  pub rest : List ℕ
  pub begins : BeginsWith input lines rest
  pub texts : List (List ℕ)
  pub machine : M
  pub answered : CarriesOut Answers first lines texts machine
  pub last : List ℕ
  pub ends : Ends machine (length lines + 1) rest last unread
  pub are : output ≡ concat texts ++ last

-- What is written of an input by what answers so from this state on, and what is left unread, where it ends so.
abbrev pub IsTranscriptOf : {M : Type 0} → AnsweringLines M → (first : M) → (input : List ℕ) → Result Ending ServeError
    → (output unread : List ℕ) → Type 0
IsTranscriptOf Answers first input ended output unread =
    IsAnswered Answers first (EndsWith Answers ended) input output unread

-- The same where what is neither blank nor a command ends it.
abbrev pub IsTranscriptBy : {M : Type 0} → Answering M → (first : M) → (input : List ℕ) → Result Ending ServeError
    → (output unread : List ℕ) → Type 0
IsTranscriptBy Answers = IsTranscriptOf (AnswersLineBy Answers)

-- ---- what `negotiate` writes

-- A map from hashes to descriptions with a count for each node, and 64 slots with what each holds.
pub record Machine : Type 0 where
  pub services : Quiet
  pub slots : List (Option Registered)

-- It begins with no service, the number 0, and free slots.
abbrev pub first_machine : Machine
first_machine = record { services = no_service 0; slots = replicate slot_count None }

-- the slot that a command names. A list names none, and no reply to it has one.
abbrev pub slot_named : Command → ℕ
slot_named (command.Call call) = call.slot
slot_named (command.Close slot) = slot
slot_named command.List = 0

-- The machine replies to a command, and that leaves it in a new state. The text is that of the reply.
pub record Replies (m : Machine) (line : List ℕ) (c : Command) (text : List ℕ) (n : Machine) : Type 0 where
  pub reply : Reply
  pub moves : Moves default_config m.services m.slots c reply n.services n.slots
  pub is_text : IsReplyText (slot_named c) reply text

-- a line's answer is what the machine replies to its command
abbrev pub AnswersLine : Machine → (line text : List ℕ) → Machine → Type 0
AnswersLine = AnswersLineBy Replies

-- What `negotiate` writes of an input, and what it leaves unread, where it ends so.
abbrev pub IsTranscript : (input : List ℕ) → Result Ending ServeError → (output unread : List ℕ) → Type 0
IsTranscript = IsTranscriptBy Replies first_machine
