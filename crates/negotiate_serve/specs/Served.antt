-- What the parts of the program do, one line at a time.
use Rattle.std.specs.Prelude.{◌≡◌, ℕ, Bool, true, false, List, [], ◌∷◌, ◌++◌, Option, Some, None, Result, Ok, Err, OnOk}
use Rattle.std.specs.Prelude.{codes}
use Rattle.std.specs.Io.KnownBytes.{Appends}
use Rattle.iceoryx2_builder.specs.declared.command.Command.{Command}
use Rattle.iceoryx2_description.specs.declared.description.ServiceHash.{ServiceHash}
use Rattle.iceoryx2_description.specs.Defaults.{default_config}
use Rattle.iceoryx2_world.specs.World.{ticket_of}
use Rattle.iceoryx2_world.specs.Tables.{TableState}
use Rattle.iceoryx2_call_laws.specs.QuietLaws.{HasNothingAt}
use Rattle.iceoryx2_session.specs.Sessions.{SessionState}
use Rattle.iceoryx2_session.specs.StandingSlots.{SlotsStand, OwnsTickets}
use Rattle.iceoryx2_session.specs.QuietSessions.{IsQuiet}
use Rattle.negotiate_lines.specs.declared.line_error.LineError.{LineError}
use Rattle.negotiate_lines.specs.Lines.{IsNoCommand}
use Rattle.negotiate_serve.specs.declared.ending.Ending.{Ending}
use Rattle.negotiate_serve.specs.declared.ending.ServeError.{ServeError}
use Rattle.negotiate_serve.specs.declared.ending.ServeError.TheVariants as failure
use Rattle.negotiate_serve.specs.declared.ending.WrongLines.{WrongLines}
use Rattle.negotiate_serve.specs.declared.ending.WrongLines.TheVariants as wrong_lines
use Rattle.negotiate_serve.specs.Endings.{IsOfWriting}
use Rattle.negotiate_serve.specs.Inputs.{BeginsWith}
use Rattle.negotiate_serve.specs.Outputs.{IsFrontOf}
use Rattle.negotiate_serve.specs.Transcripts.{Answering, AnsweringLines, AnswersLineBy, IsAnswered, EndsWith}
use Rattle.negotiate_serve.specs.Transcripts.{IsReplyToWrong, IsTranscriptOf}
use Rattle.negotiate_serve.specs.Transcripts.{Machine, Replies, first_machine, not_a_command, out_of_memory}

-- ---- a command

-- The text has grown by an answer to the line's command.
pub record GrowsByAnswer {M : Type 0} (Answers : Answering M) (m : M) (line : List ℕ) (c : Command)
    (old new : List ℕ) (n : M) : Type 0 where
  pub output : List ℕ
  pub is_answer : Answers m line c output n
  pub grown : new ≡ old ++ output

-- ---- a line

-- what is written of a line of which this is wrong, which has this number, and whether the program goes on
abbrev pub IsAnswerToWrong : WrongLines → (goes_on : Bool) → (number : ℕ) → LineError → (output : List ℕ) → Type 0
IsAnswerToWrong wrong_lines.End goes_on k w output = (goes_on ≡ false) × (output ≡ not_a_command k)
IsAnswerToWrong wrong_lines.Reply goes_on k w output = (goes_on ≡ true) × IsReplyToWrong [] w output
IsAnswerToWrong wrong_lines.ReplyAndEmptyLine goes_on k w output =
    (goes_on ≡ true) × IsReplyToWrong (codes "\n") w output

-- what is written of a line with this number, and whether the program goes on behind it
abbrev pub IsAnswerTo : {M : Type 0} → AnsweringLines M → (goes_on : Bool) → M → (number : ℕ) → (bytes output : List ℕ)
    → M → Type 0
IsAnswerTo Answers true m k bytes output n = Answers m bytes output n
IsAnswerTo Answers false m k bytes output n = IsNoCommand bytes × (output ≡ not_a_command k)

-- The text has grown by what is written of the line.
pub record GrowsByLine {M : Type 0} (Answers : AnsweringLines M) (goes_on : Bool) (m : M) (number : ℕ)
    (bytes old new : List ℕ) (n : M) : Type 0 where
  pub output : List ℕ
  pub is_answer : IsAnswerTo Answers goes_on m number bytes output n
  pub grown : new ≡ old ++ output

-- ---- a turn: a line is read and answered

-- how it ends, before a failure is written
abbrev pub EndsBeforeReport : {M : Type 0} → AnsweringLines M → Result Ending ServeError → M → (number : ℕ)
    → (rest last unread : List ℕ) → Type 0
EndsBeforeReport Answers (Err failure.OutOfMemory) m k rest last unread = last ≡ []
EndsBeforeReport Answers ended m k rest last unread = EndsWith Answers ended m k rest last unread

-- The next line is answered.
pub record GoesOn {M : Type 0} (Answers : AnsweringLines M) (m : M) (rest output : List ℕ) (left : Option (List ℕ))
    (n : M) : Type 0 where
  pub bytes : List ℕ
  pub behind : List ℕ
  pub begins : BeginsWith rest (bytes ∷ []) behind
  pub answered : Answers m bytes output n
  pub left_is : left ≡ Some behind

-- It ends so, and what is unread then is left.
pub record Stops {M : Type 0} (Answers : AnsweringLines M) (ended : Result Ending ServeError) (m : M) (number : ℕ)
    (rest output : List ℕ) (left : Option (List ℕ)) : Type 0 where
  pub unread : List ℕ
  pub ends : EndsBeforeReport Answers ended m number rest output unread
  pub left_is : OnOk ended (left ≡ Some unread)

-- the next line is answered, or it ends
abbrev pub AnswersNext : {M : Type 0} → AnsweringLines M → Result (Option Ending) ServeError → M → (number : ℕ)
    → (rest output : List ℕ) → (left : Option (List ℕ)) → M → Type 0
AnswersNext Answers (Ok None) m k rest output left n = GoesOn Answers m rest output left n
AnswersNext Answers (Ok (Some e)) m k rest output left n = Stops Answers (Ok e) m k rest output left
AnswersNext Answers (Err f) m k rest output left n = Stops Answers (Err f) m k rest output left

-- The writer has taken what is written in a turn.
pub record TakesTurn {M : Type 0} (Answers : AnsweringLines M) (result : Result (Option Ending) ServeError) (m : M)
    (number : ℕ) (rest : List ℕ) (left : Option (List ℕ)) (n : M) (old new : Option (List ℕ)) : Type 0 where
  pub output : List ℕ
  pub answers : AnswersNext Answers result m number rest output left n
  pub written : Appends old new output

-- ---- all lines

-- Lines are answered, and it ends so, with no failure written. The writer has taken what is written, and what is
-- unread is left.
pub record AnswersAll {M : Type 0} (Answers : AnsweringLines M) (first : M) (ended : Result Ending ServeError)
    (input : List ℕ) (left old new : Option (List ℕ)) : Type 0 where
  pub output : List ℕ
  pub unread : List ℕ
  pub answered : IsAnswered Answers first (EndsBeforeReport Answers ended) input output unread
  pub left_is : OnOk ended (left ≡ Some unread)
  pub written : Appends old new output

-- A failure is written: that memory ran out is written, and where that can't be written, the failure is one of writing.
abbrev pub IsFailureText : (before after : ServeError) → (output : List ℕ) → Type 0
IsFailureText failure.OutOfMemory failure.OutOfMemory output = output ≡ out_of_memory
IsFailureText failure.OutOfMemory after output = IsOfWriting after × IsFrontOf output out_of_memory
IsFailureText before after output = (after ≡ before) × (output ≡ [])

-- A failure is written, and the writer has taken what is written of it.
pub record WritesFailure (before after : ServeError) (old new : Option (List ℕ)) : Type 0 where
  pub output : List ℕ
  pub is_text : IsFailureText before after output
  pub written : Appends old new output

-- ---- a program

-- The writer has taken what is written of an input, and nothing else. This is unread then.
pub record ServesLines {M : Type 0} (Answers : AnsweringLines M) (first : M) (ended : Result Ending ServeError)
    (input unread : List ℕ) (old new : Option (List ℕ)) : Type 0 where
  pub output : List ℕ
  pub transcript : IsTranscriptOf Answers first input ended output unread
  pub written : Appends old new output

-- The same where what is neither blank nor a command ends it.
abbrev pub ServesBy : {M : Type 0} → Answering M → (first : M) → Result Ending ServeError → (input unread : List ℕ)
    → (old new : Option (List ℕ)) → Type 0
ServesBy Answers = ServesLines (AnswersLineBy Answers)

-- ---- `negotiate`, over a session

-- The session shows the machine: nobody else uses its table, which shows the machine's services, and its slots hold
-- what those of the machine hold. Its factories stand, and each ticket is that of one of them.
pub record ShowsMachine (s : SessionState) (m : Machine) : Type 0 where
  pub configured : s.config ≡ default_config
  pub quiet : IsQuiet s m.services
  pub slots : s.slots ≡ m.slots
  pub stand : SlotsStand s
  pub owns : OwnsTickets s

-- The session shows some machine.
abbrev pub ShowsSome : SessionState → Type 0
ShowsSome s = (m : Machine) × ShowsMachine s m

-- The session answers as each machine does that it shows, and it shows that one afterwards.
pub record RepliesAs (m : Machine) (line : List ℕ) (c : Command) (text : List ℕ) (new : SessionState) : Type 0 where
  pub machine : Machine
  pub replies : Replies m line c text machine
  pub shows : ShowsMachine new machine

abbrev pub SessionReplies : SessionState → (line : List ℕ) → Command → (text : List ℕ) → SessionState → Type 0
SessionReplies old line c text new = (m : Machine) → ShowsMachine old m → RepliesAs m line c text new

-- The writer has taken the transcript of an input, and nothing else. This is unread then.
abbrev pub Serves : Result Ending ServeError → (input unread : List ℕ) → (old new : Option (List ℕ)) → Type 0
Serves = ServesBy Replies first_machine

-- Nothing of any service is left in a table, and no ticket.
pub record HasNothing (t : TableState) : Type 0 where
  pub services : (hash : ServiceHash) → HasNothingAt t.world hash
  pub tickets : (ticket : ℕ) → ticket_of t.world ticket ≡ None
